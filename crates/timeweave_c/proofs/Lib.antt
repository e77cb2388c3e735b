pub mod WithoutMemory
