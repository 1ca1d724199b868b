pub mod ReplyCodes
pub mod ReportBytes
pub mod ReportEntries
pub mod RunBytes
pub mod RunReports
