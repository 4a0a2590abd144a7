mod EmptyLogs
mod Made
mod Named
mod Never
mod NewIndex
mod Nothing
mod Unfilled
