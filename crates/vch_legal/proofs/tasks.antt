pub mod OwnFrame
pub mod OwnSteps
pub mod OwnTask
pub mod TaskItems
pub mod TaskLists
