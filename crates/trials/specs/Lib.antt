-- Small rules and inputs: Small. The row that they are tried in: Desk.
pub mod Small
pub mod Desk
