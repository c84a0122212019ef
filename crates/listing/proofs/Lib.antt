pub mod WholeBoards
