pub mod AsManyTasks
pub mod AtRest
pub mod CallGives
pub mod StoreCounts
pub mod StoreKeeps
pub mod StoreLegal
pub mod StoreSmall
pub mod StoreSteps
