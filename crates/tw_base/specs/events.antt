-- The events of a step: their tree by RFC 6962, and the paths that show one of them.
pub mod EventTree
pub mod AuditPath
pub mod EventParts
