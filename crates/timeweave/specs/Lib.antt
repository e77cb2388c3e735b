pub mod Arguments
pub mod StoreFiles
