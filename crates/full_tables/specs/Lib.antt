pub mod FullTables
