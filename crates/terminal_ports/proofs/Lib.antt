pub mod Row
pub mod PortsApart
pub mod Rows
pub mod RowPorts
pub mod RowTold
