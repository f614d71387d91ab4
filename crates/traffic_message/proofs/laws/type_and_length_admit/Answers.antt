use Rattle.traffic_message.proofs.Admitting.{admitted_has, has_admitted}
use Rattle.traffic_message.proofs.laws.type_and_length_admit.Goals as goal

pub returns-clause-admitted : goal.returns-clause-admitted
returns-clause-admitted c body fills = (
  λ h. admitted_has body fills h,
  λ has. has_admitted body has,
)
