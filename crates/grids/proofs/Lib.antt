pub mod CsvReading
pub mod JsonReading
