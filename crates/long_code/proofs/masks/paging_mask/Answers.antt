use Rattle.long_code.proofs.Common.{◌≡◌, ◌<◌, ◌+◌, ◌*◌, ◌%◌, ℕ, bit_or, sym, ap, ◌∙◌, arith}
use Rattle.long_code.proofs.Fields.{paging_mask_is, paging_word}
use Rattle.long_code.proofs.masks.paging_mask.Goals as goal

word_is : (channel pilot first second : ℕ) → channel < 8 → pilot < 512 → first ≡ channel → second ≡ pilot →
    bit_or (bit_or 3408593420288 (first * 2097152 % 18446744073709551616)) second ≡
    (203168 * 8 + channel) * 2097152 + pilot
word_is channel pilot first second p q d e =
    ap (λ (n : ℕ). bit_or (bit_or 3408593420288 (n * 2097152 % 18446744073709551616)) second) d
    ∙ ap (λ (n : ℕ). bit_or (bit_or 3408593420288 (channel * 2097152 % 18446744073709551616)) n) e
    ∙ paging_word channel pilot p q

pub returns-clause-value : goal.returns-clause-value
returns-clause-value c =
    let channel : c.args.channel < 8 = omega arith in
    let pilot : c.args.pilot < 512 = omega arith in
    word_is c.args.channel c.args.pilot c.from.result c.from-2.result channel pilot c.from.ensures
    c.from-2.ensures
    ∙ sym (paging_mask_is c.args.channel c.args.pilot channel pilot)

pub returns-clause-below : goal.returns-clause-below
returns-clause-below c =
    let channel : c.args.channel < 8 = omega arith in
    let pilot : c.args.pilot < 512 = omega arith in
    let e = word_is c.args.channel c.args.pilot c.from.result c.from-2.result channel pilot
    c.from.ensures c.from-2.ensures in
    omega (arith, e)
