pub mod clauses
