use Rattle.symbol_path.proofs.Common.{◌≡◌, ℕ, ◌*◌, length, sym, ap, ◌∙◌, arith, binary, bits_in, format_codeword, length-code_symbols}
use Rattle.symbol_path.proofs.Common.{repeated_count, sent_count, sent_by, place_in}
use Rattle.symbol_path.proofs.CodewordsTwo.{coded_from_zero}
use Rattle.symbol_path.proofs.FormatSymbols.{repeated_is, sent_is, by_format}
use Rattle.symbol_path.proofs.frames.encode_frame_into.Goals as goal

pub encode_into-requires : goal.encode_into-requires
encode_into-requires g c = omega (arith, c.codeword.ensures.count, c.requires.format.most)

pub place_sent-requires : goal.place_sent-requires
place_sent-requires g c =
    let format = c.args.format.now in
    let long : length c.encode_into.new.out ≡ 2 * bits_in format =
    ap length c.encode_into.ensures.symbols ∙ length-code_symbols (binary 8 0) c.codeword.result
    ∙ ap (λ (n : ℕ). 2 * n) c.codeword.ensures.count in
    ap (λ (n : ℕ). n * format.repeats) long ∙ c.requires.format.fills ∙ sym (repeated_is format.drops)
    ∙ ap repeated_count (sym c.sent_symbols.ensures)

pub returns-clause-value : goal.returns-clause-value
returns-clause-value g c =
    let format = c.args.format.now in
    c.place_sent.ensures.value
    ∙ by_format (λ key count. sent_by key count c.encode_into.new.out) format c.sent_symbols.result
    c.sent_symbols.ensures
    ∙ ap (sent_by (place_in format) 384)
    (coded_from_zero c.codeword.result (format_codeword format c.args.information.now)
    c.encode_into.new.out c.codeword.ensures.value c.encode_into.ensures.symbols)

pub returns-clause-count : goal.returns-clause-count
returns-clause-count g c =
    c.place_sent.ensures.count ∙ ap sent_count c.sent_symbols.ensures ∙ sent_is c.args.format.now.drops
