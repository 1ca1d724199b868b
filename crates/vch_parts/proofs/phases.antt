pub mod PhaseEnds
