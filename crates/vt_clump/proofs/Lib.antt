pub mod ReadBack
pub mod UnpackBlock
