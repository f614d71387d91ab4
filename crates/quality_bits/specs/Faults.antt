-- The fault of a message for that of its capsule, and the result of decoding a capsule.
use Rattle.std.specs.Prelude.{◌≡◌, ◌↔◌, Bool, List, Option, Some, None, Result, Ok, Err, IfOk}
use Rattle.chip_core.specs.declared.check_form.CheckForm.{CheckForm}
use Rattle.quality_bits.specs.Capsules.{IsWhole}
use Rattle.quality_bits.specs.Kinds.{IsChecked}
use Rattle.quality_bits.specs.declared.kind.Kind.{Kind}
use Rattle.quality_bits.specs.declared.capsule.CapsuleFault.{CapsuleFault}
use Rattle.quality_bits.specs.declared.message_fault.MessageFault.{MessageFault}
use Rattle.quality_bits.specs.declared.capsule.CapsuleFault.TheVariants as capsules
use Rattle.quality_bits.specs.declared.message_fault.MessageFault.TheVariants as messages

abbrev pub fault_of : CapsuleFault → MessageFault
fault_of capsules.BadLength = messages.BadLength
fault_of capsules.BadCheck = messages.BadCheck

-- the message that was read, or none if there was a fault
abbrev pub reading_of : {M : Type 0} → Result M MessageFault → Option M
reading_of (Ok m) = Some m
reading_of (Err fault) = None

-- Decoding a list of bits as the capsule of a message returned this result: the message whose
-- capsule the list is, or the first fault that applies. `Is` defines which values are messages,
-- `spelled` returns a message's capsule, and `of_capsule` is the reading that defines decoding.
pub record Decodes {M : Type 0} (kind : Kind) (form : CheckForm) (Is : M → Type 0)
    (spelled : M → List Bool) (of_capsule : List Bool → Option M) (bits : List Bool)
    (result : Result M MessageFault) : Type 0 where
  pub found : IfOk result (λ m. Is m × (bits ≡ spelled m))
  pub only : (m : M) → Is m → bits ≡ spelled m → result ≡ Ok m
  pub reading : reading_of result ≡ of_capsule bits
  pub bad_length : (result ≡ Err messages.BadLength) ↔ ¬ (IsWhole bits)
  pub bad_check : (result ≡ Err messages.BadCheck) ↔ (IsWhole bits × ¬ (IsChecked kind form bits))
  pub bad_body : (result ≡ Err messages.BadBody)
      ↔ (IsWhole bits × IsChecked kind form bits × ((m : M) → Is m → ¬ (bits ≡ spelled m)))
