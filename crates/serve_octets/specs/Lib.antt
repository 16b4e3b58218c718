pub mod SentRows
