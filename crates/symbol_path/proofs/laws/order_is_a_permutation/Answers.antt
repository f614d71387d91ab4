use Rattle.symbol_path.proofs.Common.{shape_of, place}
use Rattle.symbol_path.proofs.Permutation.{address_lt, address-injective, place_lt, address-place}
use Rattle.symbol_path.proofs.laws.order_is_a_permutation.Goals as goal

pub returns-clause-below : goal.returns-clause-below
returns-clause-below c = address_lt

pub returns-clause-once : goal.returns-clause-once
returns-clause-once c = address-injective

pub returns-clause-each : goal.returns-clause-each
returns-clause-each c = λ kind a h. (place (shape_of kind) a, place_lt kind a h, address-place kind a h)
