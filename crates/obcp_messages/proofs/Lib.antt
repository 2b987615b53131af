pub mod Faults
pub mod Identifiers
pub mod Numbers
pub mod Octets
pub mod ReportFaults
pub mod ReportOctets
pub mod Requests
pub mod RowOctets
