pub mod Price
pub mod PriceText
