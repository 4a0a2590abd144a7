mod FolderHeads
