pub mod MailLemmas
pub mod ReceiverLemmas
pub mod DeliveryLemmas
pub mod DeliveredLemmas
