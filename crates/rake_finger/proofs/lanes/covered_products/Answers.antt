use Rattle.rake_finger.proofs.Common.{◌*◌, arith, sign_lanes}
use Rattle.rake_finger.proofs.SignedLanes.{near_kept, signed_kept, unit_lanes}
use Rattle.rake_finger.proofs.lanes.covered_products.Goals as goal

pub signed_lanes-requires-clause-products : goal.signed_lanes-requires-clause-products
signed_lanes-requires-clause-products c = near_kept c.args.real c.requires.real

pub signed_lanes-requires-2-clause-products : goal.signed_lanes-requires-2-clause-products
signed_lanes-requires-2-clause-products c = near_kept c.args.imaginary c.requires.imaginary

pub returns-clause-real : goal.returns-clause-real
returns-clause-real c =
    signed_kept c.args.real c.eight_signs-signs.result
    (sign_lanes c.args.row.now (8 * c.args.group)) c.signed_lanes.result c.requires.real
    c.eight_signs-signs.ensures
    (unit_lanes c.args.row.now (8 * c.args.group) (omega (arith, c.requires.group))
    c.requires.units) c.signed_lanes.ensures

pub returns-clause-imaginary : goal.returns-clause-imaginary
returns-clause-imaginary c =
    signed_kept c.args.imaginary c.eight_signs-signs.result
    (sign_lanes c.args.row.now (8 * c.args.group)) c.signed_lanes-2.result
    c.requires.imaginary c.eight_signs-signs.ensures
    (unit_lanes c.args.row.now (8 * c.args.group) (omega (arith, c.requires.group))
    c.requires.units) c.signed_lanes-2.ensures
