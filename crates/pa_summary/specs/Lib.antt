pub mod SummaryText
