-- pages of a paging channel, half-frame by half-frame, and the capsules that frames end
pub mod Common
pub mod pages
-- the pieces of the transmissions of a sync channel
pub mod sendings
