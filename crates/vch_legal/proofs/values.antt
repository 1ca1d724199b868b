pub mod FoundValues
pub mod HeldLive
pub mod LiveKeeps
pub mod NothingHeld
pub mod ValueKeys
pub mod ValueSteps
pub mod Values
pub mod ValuesMade
