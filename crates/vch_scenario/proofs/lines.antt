pub mod CommandLines
pub mod CallLines
pub mod ItemLines
pub mod TaskLines
pub mod StepLines
pub mod FaultLines
