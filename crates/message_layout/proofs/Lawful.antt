-- What it says of a layout that it is lawful.
use Rattle.message_layout.proofs.Common.{◌≡◌, ℕ, ◌+◌, ◌*◌, ◌/◌, ◌<◌, ◌≤◌, ◌&&◌, Bool, true, List, [], ◌∷◌, length, sym, ap, ◌∙◌, arith}
use Rattle.message_layout.proofs.Common.{nat_le, Option, None, Some, and_parts, leb-true, ltb-true, div-mul-add, le-div, div-mul-le_self}
use Rattle.message_layout.proofs.Common.{total_width, AreWidths, count_in, share, are_widths, ends, is_lawful, group_is_told, AreNarrow}
use Rattle.message_layout.proofs.Common.{MessageShape, IsRest, length-map, shape}
use Rattle.message_layout.specs.declared.layout.MessageLayout.{MessageLayout}

widths_from : (most : ℕ) (ws : List ℕ) → most ≤ 64 → are_widths most ws ≡ true → AreWidths ws
widths_from most [] small h = tt
widths_from most (w ∷ ws) small h =
    let one = and_parts (nat_le 1 w) (nat_le w most && are_widths most ws) h in
    let two = and_parts (nat_le w most) (are_widths most ws) one.1 in
    let top = leb-true w most two.0 in (leb-true 1 w one.0, omega (arith, top, small), widths_from most ws small two.1)

narrow_from : (ws : List ℕ) → are_widths 32 ws ≡ true → AreNarrow ws
narrow_from [] h = tt
narrow_from (w ∷ ws) h =
    let one = and_parts (nat_le 1 w) (nat_le w 32 && are_widths 32 ws) h in
    let two = and_parts (nat_le w 32) (are_widths 32 ws) one.1 in
    (leb-true w 32 two.0, narrow_from ws two.1)

pub record Parts (s : MessageShape) : Type 0 where
  pub fixed : AreWidths s.fixed
  pub fixed_room : length s.fixed ≤ 48
  pub group : AreWidths s.group
  pub group_room : length s.group ≤ 48
  pub told : group_is_told s.presence s.group ≡ true
  pub zeros : s.zeros ≤ 64
  pub count : s.count ≤ 8
  pub records : AreWidths s.records
  pub narrow : AreNarrow s.records
  pub few : length s.records ≤ 3
  pub last : ends s.records s.most ≡ true

-- A layout that passes the test has ten properties: the test joins them by `and`, and they are
-- taken off it one after another.
pub lawful : (s : MessageShape) → is_lawful s ≡ true → Parts s
unfolding is_lawful
lawful s h =
    let j = ends s.records s.most in
    let i = nat_le (length s.records) 3 && j in
    let g = are_widths 32 s.records && i in
    let f = nat_le s.count 8 && g in
    let e = nat_le s.zeros 64 && f in
    let d = group_is_told s.presence s.group && e in
    let c = nat_le (length s.group) 48 && d in
    let b = are_widths 64 s.group && c in
    let a = nat_le (length s.fixed) 48 && b in
    let p0 = and_parts (are_widths 64 s.fixed) a h in
    let p1 = and_parts (nat_le (length s.fixed) 48) b p0.1 in
    let p2 = and_parts (are_widths 64 s.group) c p1.1 in
    let p3 = and_parts (nat_le (length s.group) 48) d p2.1 in
    let p4 = and_parts (group_is_told s.presence s.group) e p3.1 in
    let p5 = and_parts (nat_le s.zeros 64) f p4.1 in
    let p6 = and_parts (nat_le s.count 8) g p5.1 in
    let p7 = and_parts (are_widths 32 s.records) i p6.1 in
    let p8 = and_parts (nat_le (length s.records) 3) j p7.1 in
    record {
      fixed = widths_from 64 s.fixed (omega arith) p0.0;
      fixed_room = leb-true (length s.fixed) 48 p1.0;
      group = widths_from 64 s.group (omega arith) p2.0;
      group_room = leb-true (length s.group) 48 p3.0;
      told = p4.0;
      zeros = leb-true s.zeros 64 p5.0;
      count = leb-true s.count 8 p6.0;
      records = widths_from 32 s.records (omega arith) p7.0;
      narrow = narrow_from s.records p7.0;
      few = leb-true (length s.records) 3 p8.0;
      last = p8.1;
    }

-- so its tables are short
pub fixed_few : (layout : MessageLayout) → is_lawful (shape layout) ≡ true → length layout.fixed.now ≤ 48
fixed_few layout h = omega (arith, (lawful (shape layout) h).fixed_room, length-map layout.fixed.now (λ row. row.1))

pub group_few : (layout : MessageLayout) → is_lawful (shape layout) ≡ true → length layout.group.fields.now ≤ 48
group_few layout h =
    omega (arith, (lawful (shape layout) h).group_room, length-map layout.group.fields.now (λ row. row.1))

pub records_few : (layout : MessageLayout) → is_lawful (shape layout) ≡ true → length layout.records.fields.now ≤ 3
records_few layout h = omega (arith, (lawful (shape layout) h).few, length-map layout.records.fields.now (λ row. row.1))

-- as many records as fit leave a rest that is shorter than one
pub counted : (ws : List ℕ) (n : ℕ) (most : Option ℕ) (rest : List Bool) (all : ℕ) →
    ends ws most ≡ true → IsRest most rest → n ≡ share ws n 0 → all ≡ n * total_width ws + length rest →
    count_in ws all ≡ n
counted [] n most rest all last short none is = sym none
counted (w ∷ ws) n None rest all last short none is = absurd (cc)
counted (w ∷ ws) n (Some most) rest all last short none is =
    let size = total_width (w ∷ ws) in
    ap (λ (k : ℕ). k / size) is
    ∙ div-mul-add n size (length rest) (omega (arith, short, ltb-true most size last))

pub count_room : (ws : List ℕ) (all : ℕ) → count_in ws all * total_width ws ≤ all
count_room [] all = omega arith
count_room (w ∷ ws) all = div-mul-le_self all (total_width (w ∷ ws))

-- fewer bits hold no more records
pub count_below : (ws : List ℕ) (few all : ℕ) → AreWidths ws → few ≤ all → count_in ws few ≤ count_in ws all
count_below [] few all are h = omega arith
count_below (w ∷ ws) few all are h =
    let size = total_width (w ∷ ws) in
    let some : 0 < size = omega (arith, are.0) in
    let most : few / size * size ≤ all = omega (arith, div-mul-le_self few size, h) in
    le-div (few / size) all size some most
