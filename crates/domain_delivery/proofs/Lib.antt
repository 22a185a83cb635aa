-- The laws of a delivery structure's definitions. Assumes nothing.
pub mod DeliveryLaws
