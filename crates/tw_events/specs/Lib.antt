pub mod EventLeaves
