pub mod Rules
mod Examples
