-- What the laws of the batches are proved from.
pub mod JobsCounted
pub mod BatchLaws
