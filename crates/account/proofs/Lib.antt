pub mod CarrierTexts
