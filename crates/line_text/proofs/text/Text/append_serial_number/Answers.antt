use Rattle.line_text.proofs.Common.{◌≡◌, ◌++◌, List, ℕ, ap, ◌∙◌, rules, w32, to_be_bytes, encode_lower}
use Rattle.line_text.proofs.Digits.{encoded_ascii, serial_number_digits}
use Rattle.line_text.proofs.text.Text.append_serial_number.Goals as goal

pub append-requires-clause-ascii : goal.append-requires-clause-ascii
append-requires-clause-ascii c =
    let octets = to_be_bytes w32 c.args.esn in
    let digits : c.encode_to_slice.new.output ≡ encode_lower octets = search rules in
    rw (digits) (encoded_ascii octets)

pub returns-clause-value : goal.returns-clause-value
returns-clause-value c =
    let digits : c.encode_to_slice.new.output ≡ encode_lower (to_be_bytes w32 c.args.esn) = search rules in
    c.append.ensures.value ∙
    ap (λ (ds : List ℕ). c.args.self.now ++ ds) (serial_number_digits c.encode_to_slice.new.output c.args.esn digits)
