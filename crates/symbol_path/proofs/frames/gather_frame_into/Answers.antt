use Rattle.symbol_path.proofs.Common.{◌≡◌, ℕ, ◌*◌, length, sym, ap, ◌∙◌, rules, repeated_count, sent_count, gathered_by, place_in}
use Rattle.symbol_path.proofs.FormatSymbols.{repeated_is, sent_is, by_format}
use Rattle.symbol_path.proofs.frames.gather_frame_into.Goals as goal

pub gather_sent-requires-clause-sent : goal.gather_sent-requires-clause-sent
gather_sent-requires-clause-sent g c =
    let many : length c.args.softs.now ≡ 384 = search rules in
    many ∙ sym (sent_is c.args.format.now.drops) ∙ ap sent_count (sym c.sent_symbols.ensures)

pub gather_sent-requires-clause-code : goal.gather_sent-requires-clause-code
gather_sent-requires-clause-code g c =
    let format = c.args.format.now in
    ap (λ (n : ℕ). n * format.repeats) c.requires.code ∙ c.requires.format.fills
    ∙ sym (repeated_is format.drops) ∙ ap repeated_count (sym c.sent_symbols.ensures)

pub returns-clause-value : goal.returns-clause-value
returns-clause-value g c =
    let format = c.args.format.now in
    c.gather_sent.ensures.value
    ∙ by_format (λ key count. gathered_by key count (length c.args.out.now) c.args.softs.now) format
    c.sent_symbols.result c.sent_symbols.ensures
    ∙ ap (λ (n : ℕ). gathered_by (place_in format) 384 n c.args.softs.now) c.requires.code
