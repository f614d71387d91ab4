-- Capsules read as messages.
use Rattle.paging_message.proofs.Common.{◌≡◌, refl, Some, CheckForm, M30, AreRead, read_by_spelling, message_body, IsPagingMessage}
use Rattle.paging_message.proofs.Common.{paging_capsule, body_reading, paging_reading, PagingMessage}
use Rattle.paging_message.proofs.Messages.{message_fills}
pub use Rattle.paging_message.proofs.Messages.{body_is_read, reads_body}

pub are_read : (form : CheckForm) →
    AreRead M30 form IsPagingMessage message_body (paging_capsule form) body_reading (paging_reading form)
unfolding paging_capsule paging_reading
are_read form =
    read_by_spelling M30 form IsPagingMessage message_body (paging_capsule form) body_reading (paging_reading form)
    38 refl (λ m. refl) (λ bits. refl) message_fills reads_body body_is_read

pub reads_capsule : (form : CheckForm) (m : PagingMessage) → IsPagingMessage m →
    paging_reading form (paging_capsule form m) ≡ Some m
reads_capsule form m is = (are_read form).capsule_again m is
