use Rattle.frame_decoder.proofs.Common.{◌≡◌, ◌*◌, ℕ, length, take, drop, ap, ◌∙◌, arith, rules, IsBestCodeword, spelled_codeword, Codeword}
use Rattle.frame_decoder.proofs.Common.{Free, channel_of, gathered_span, length-take-le, length-drop}
use Rattle.frame_decoder.proofs.Gathered.{length-gathered_span}
use Rattle.frame_decoder.proofs.BestCodewords.{own_within, own_is}
use Rattle.frame_decoder.proofs.span.bits_of.Goals as goal

pub best_codeword-codeword-requires : goal.best_codeword-codeword-requires
best_codeword-codeword-requires c =
    let l = c.args.span_format in
    let n = c.args.frames in
    let long : length c.gather_span.new.out ≡ 2 * l.bits * n =
    ap length c.gather_span.ensures.value
    ∙ length-gathered_span l.kind l.bits l.repeats n c.args.softs.now c.requires.sent in
    let room = c.requires.room in
    record { even = search rules; least = search rules; most = omega (arith, long, room); bound = search rules }

-- The codeword has all bits of the frame that is asked for: the best codeword has the bits of the
-- whole span, and the frame is one of those that were sent in it.
pub part-requires : goal.part-requires
part-requires c =
    let l = c.args.span_format in
    let softs = c.args.softs.now in
    let codeword : Codeword = spelled_codeword c.best_codeword-codeword.result in
    let best : IsBestCodeword (gathered_span (channel_of l) c.args.frames softs) Free codeword =
    rw c.gather_span.ensures.value at c.best_codeword-codeword.ensures.best in
    rw c.from-2.ensures
    (own_within l.kind l.bits l.repeats c.args.frames c.args.own softs codeword c.requires.sent
    c.requires.own best)

-- The bits are the frame's own part of the span's best codeword: the decoder's codeword is the best
-- one for the gathered soft values, and each frame's bits lie in it after those of the frames
-- before.
pub returns-clause-value : goal.returns-clause-value
returns-clause-value c =
    let l = c.args.span_format in
    let softs = c.args.softs.now in
    let codeword : Codeword = spelled_codeword c.best_codeword-codeword.result in
    let best : IsBestCodeword (gathered_span (channel_of l) c.args.frames softs) Free codeword =
    rw c.gather_span.ensures.value at c.best_codeword-codeword.ensures.best in
    c.part.ensures
    ∙ ap (λ (k : ℕ). take l.bits (drop (l.bits * k) codeword.bits)) c.from-2.ensures
    ∙ own_is l.kind l.bits l.repeats c.args.frames c.args.own softs codeword c.requires.least
    c.requires.sent c.requires.softs c.requires.own best

-- The frame's own part has as many bits as a frame: the best codeword has the bits of all frames of
-- the span, and after those of the frames before this one a whole frame's are left.
pub returns-clause-count : goal.returns-clause-count
returns-clause-count c =
    let l = c.args.span_format in
    let softs = c.args.softs.now in
    let codeword : Codeword = spelled_codeword c.best_codeword-codeword.result in
    let best : IsBestCodeword (gathered_span (channel_of l) c.args.frames softs) Free codeword =
    rw c.gather_span.ensures.value at c.best_codeword-codeword.ensures.best in
    let room = own_within l.kind l.bits l.repeats c.args.frames c.args.own softs codeword
    c.requires.sent c.requires.own best in
    let from : ℕ = l.bits * c.from-2.result in
    let rest = length-drop from codeword.bits in
    let place : from ≡ l.bits * c.args.own = ap (λ (k : ℕ). l.bits * k) c.from-2.ensures in
    ap length c.part.ensures
    ∙ length-take-le l.bits (drop from codeword.bits) (omega (arith, room, rest, place))
