pub mod Pieces
pub mod RowNumbers
pub mod Shown
pub mod PieceDuties
pub mod RowLists
pub mod DividerRows
pub mod MuxRows
pub mod PllRows
