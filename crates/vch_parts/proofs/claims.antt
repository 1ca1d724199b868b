pub mod Claims
pub mod Expected
pub mod OnClaims
pub mod Taking
pub mod OneClaim
