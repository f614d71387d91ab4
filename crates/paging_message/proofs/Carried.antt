-- What laid capsules carry: their half-frames end just the capsules, run by run.
use Rattle.paging_message.proofs.Common.{◌≡◌, ℕ, suc, ◌+◌, ◌-◌, ◌*◌, ◌/◌, ◌<◌, ◌≤◌, Bool, List, [], ◌∷◌, ◌++◌, length, map, refl, sym, ap}
use Rattle.paging_message.proofs.Common.{◌∙◌, arith, append_assoc, length-append, flat_map, option_to_list, cases_Bool, inl, inr, places}
use Rattle.paging_message.proofs.Common.{flat_map-append, append-nil, map-append, mul-le-mul_left, Piece, Rate, R9600, R4800, R2400, R1200}
use Rattle.paging_message.proofs.Common.{capsules_in, half_frame_body, flat_map-add, flat_map-nothing, flat_map-zero, flat_map_ext_places}
use Rattle.paging_message.proofs.Common.{length-take-le, length-drop, drop, half_frame_capsule_ending, take}
use Rattle.paging_message.proofs.LaidRuns.{AreChainedRuns, first_put_begins, first_puts_chained, first_puts_laid, lawful_some, none_padded}
use Rattle.paging_message.proofs.LaidRuns.{put-begins, put-follows, runs_pieces, runs_put}
use Rattle.paging_message.proofs.Layings.{framed_whole}
use Rattle.paging_message.proofs.Runs.{AreChained, ended-after, ended_of, fills, first_bits_told, joined, length-padded, run_bits}
use Rattle.paging_message.proofs.Runs.{run_piece, run_pieces, run_scanned, run_width}
use Rattle.paging_message.proofs.Scans.{AreWhole, bits_of, ended_by-append, ended_by_bits, half_frame_ends, scan, scan-append, stream}
use Rattle.paging_message.proofs.Scans.{told_in, whole-append, whole-map, with_number}
use Rattle.paging_message.specs.Laying as laying

-- ---- the capsules of half-frames, without their numbers

abbrev pub unnumbered : List (ℕ × List Bool) → List (List Bool)
unnumbered told = map (λ (p : ℕ × List Bool). p.1) told

numbers_off : (o : ℕ) (cs : List (List Bool)) → unnumbered (with_number o cs) ≡ cs
numbers_off o [] = refl
numbers_off o (c ∷ cs) = ap (λ (l : List (List Bool)). c ∷ l) (numbers_off o cs)

all_numbers_off : (o : ℕ → ℕ) (g : ℕ → List (List Bool)) (ks : List ℕ) →
    unnumbered (flat_map (λ k. with_number (o k) (g k)) ks) ≡ flat_map g ks
all_numbers_off o g [] = refl
all_numbers_off o g (k ∷ ks) =
    let rest = flat_map (λ j. with_number (o j) (g j)) ks in
    map-append (λ (p : ℕ × List Bool). p.1) (with_number (o k) (g k)) rest
    ∙ ap (λ (l : List (List Bool)). l ++ unnumbered rest) (numbers_off (o k) (g k))
    ∙ ap (λ (l : List (List Bool)). g k ++ l) (all_numbers_off o g ks)

-- the bits of one half-frame more
pub stream-next : (pieces : List Piece) (p : Piece) → stream (pieces ++ p ∷ []) ≡ stream pieces ++ bits_of p
stream-next pieces p =
    flat_map-append bits_of pieces (p ∷ [])
    ∙ ap (λ (l : List Bool). stream pieces ++ l) (append-nil (bits_of p))

-- what half-frames after others end
half_frames_end : (size : ℕ) (before : List Piece) (o : ℕ) (pieces : List Piece) → 0 < size →
    AreWhole size before → AreWhole size pieces →
    ended_by_bits size (stream before) (stream pieces) ≡ unnumbered (scan size before o pieces)
half_frames_end size before o [] large are more =
    flat_map-zero (λ i. option_to_list (half_frame_capsule_ending size (stream before ++ take (i + 1) [])))
half_frames_end size before o (p ∷ pieces) large are more =
    let told = told_in size before p in
    let next = before ++ p ∷ [] in
    let rest = unnumbered (scan size next (suc o) pieces) in
    ended_by-append size (stream before) (bits_of p) (stream pieces)
    ∙ ap (λ (l : List (List Bool)). l ++ ended_by_bits size (stream before ++ bits_of p) (stream pieces))
    (half_frame_ends size before p large are more.0)
    ∙ ap (λ (l : List Bool). told ++ ended_by_bits size l (stream pieces)) (sym (stream-next before p))
    ∙ ap (λ (l : List (List Bool)). told ++ l)
    (half_frames_end size next (suc o) pieces large (whole-append size before (p ∷ []) are (more.0, tt))
    more.1)
    ∙ sym (map-append (λ (q : ℕ × List Bool). q.1) (with_number o told) (scan size next (suc o) pieces)
    ∙ ap (λ (l : List (List Bool)). l ++ rest) (numbers_off o told))

-- ---- what a run ends

-- All bits of a run end just its capsules.
run_ends : (size at : ℕ) (cs : List (List Bool)) (bits : ℕ) → AreChained size at cs → length (joined cs 0) ≤ bits →
    flat_map (λ m. option_to_list (ended_of cs (suc m))) (places bits) ≡ cs
run_ends size at [] bits chained room = flat_map-nothing (λ m. option_to_list (ended_of [] (suc m))) bits (λ k lt. refl)
run_ends size at (c ∷ cs) bits chained room =
    let g = λ (m : ℕ). option_to_list (ended_of (c ∷ cs) (suc m)) in
    let n = length c in
    let some : 8 ≤ n = chained.0.told in
    let all = length-append c (joined cs 0) in
    let d = n - 1 in
    let long : n ≡ suc d = omega (arith, some) in
    let b = bits - n in
    let parts : bits ≡ suc d + b = omega (arith, long, room, all) in
    let own : flat_map g (places (suc d)) ≡ c ∷ [] =
    sym (all_numbers_off (λ m. (0 + m) / size) g (places (suc d)))
    ∙ ap unnumbered (first_bits_told size 0 d c cs long) in
    ap (λ (k : ℕ). flat_map g (places k)) parts
    ∙ flat_map-add g (suc d) b
    ∙ ap (λ (l : List (List Bool)). l ++ flat_map (λ i. g (suc d + i)) (places b)) own
    ∙ ap (λ (l : List (List Bool)). c ∷ l)
    (flat_map_ext_places (λ i. g (suc d + i)) (λ m. option_to_list (ended_of cs (suc m))) b
    (λ k lt. ap option_to_list (ended-after c cs (suc (suc d + k)) k (omega (arith, long))))
    ∙ run_ends size (at + n) cs b chained.2 (omega (arith, room, all, long)))

-- so do all half-frames of runs, whatever was heard before
runs_end : (size : ℕ) (before : List Piece) (o : ℕ) (runs : List (List (List Bool))) → 0 < size →
    AreChainedRuns size runs → unnumbered (scan size before o (runs_pieces size runs)) ≡ flat_map (λ run. run) runs
runs_end size before o [] large are = refl
runs_end size before o (run ∷ runs) large are =
    let own = run_pieces size run in
    let w = run_width size run in
    let more = runs_pieces size runs in
    let rest = scan size (before ++ own) (o + length own) more in
    ap unnumbered (scan-append size before o own more)
    ∙ map-append (λ (p : ℕ × List Bool). p.1) (scan size before o own) rest
    ∙ ap (λ (l : List (List Bool)). l ++ unnumbered rest)
    (ap unnumbered (run_scanned size before o run w large are.0 (omega arith))
    ∙ all_numbers_off (λ m. (size * o + m) / size) (λ m. option_to_list (ended_of run (suc m))) (places (size * w))
    ∙ run_ends size 0 run (size * w) are.0 (omega (arith, fills size (length (joined run 0)) large)))
    ∙ ap (λ (l : List (List Bool)). run ++ l) (runs_end size (before ++ own) (o + length own) runs large are.2)

-- Each half-frame of a run is full: the run's bits are filled with zeros up to whole half-frames,
-- so from the beginning of each one on there are `size` bits to take.
pub run_pieces_whole : (size : ℕ) (cs : List (List Bool)) → 0 < size → AreWhole size (run_pieces size cs)
run_pieces_whole size cs large =
    let bits = run_bits size cs in
    let w = run_width size cs in
    let long = length-padded size (joined cs 0) large in
    whole-map size (run_piece size cs) w
    (λ j lt.
    let room : size * suc j ≤ size * w = mul-le-mul_left size lt in
    let e : size * suc j ≡ size * j + size = omega arith in
    length-take-le size (drop (size * j) bits) (omega (arith, room, e, long, length-drop (size * j) bits)))

runs_whole : (size : ℕ) (runs : List (List (List Bool))) → 0 < size → AreWhole size (runs_pieces size runs)
runs_whole size [] large = tt
runs_whole size (run ∷ runs) large =
    whole-append size (run_pieces size run) (runs_pieces size runs) (run_pieces_whole size run large)
    (runs_whole size runs large)

-- ---- puts

-- their runs have just their capsules
capsules_put : (run : List (List Bool)) (puts : List laying.Put) →
    flat_map (λ (r : List (List Bool)). r) (runs_put run puts) ≡ run ++ map (λ (p : laying.Put). p.capsule) puts
capsules_put run [] = refl
capsules_put run (p ∷ puts) =
    let capsules = map (λ (q : laying.Put). q.capsule) puts in
    elim (cases_Bool p.follows) [
      | inl t ↦
          ap (flat_map (λ (r : List (List Bool)). r)) (put-follows run p puts t)
          ∙ capsules_put (run ++ p.capsule ∷ []) puts
          ∙ append_assoc run (p.capsule ∷ []) capsules
      | inr f ↦
          ap (flat_map (λ (r : List (List Bool)). r)) (put-begins run p puts f)
          ∙ ap (λ (l : List (List Bool)). run ++ l) (capsules_put (p.capsule ∷ []) puts)
    ]

-- the capsules that bits end, after none
ends_after_none : (size : ℕ) (bits : List Bool) → capsules_in size bits ≡ ended_by_bits size (stream []) bits
unfolding capsules_in
ends_after_none size bits = refl

nothing_framed : (size : ℕ) → 0 < size → laying.half_frames_of size laying.nothing_laid ≡ []
unfolding laying.half_frames_of
nothing_framed size large =
    ap (λ (l : List Bool). laying.framed size (record { body = l; starts = [] })) (none_padded size large)
    ∙ framed_whole size 0 [] [] large (omega arith)
    ∙ flat_map-zero (laying.half_frame size [] [])

-- The half-frames of laid capsules end just these capsules, in order: what is laid is the
-- half-frames of the runs one after another, from the first capsule's on, and the half-frames of a
-- run end its own capsules. Where nothing is laid there is no half-frame, and nothing ends.
pub laid_is_carried : (size : ℕ) (puts : List laying.Put) → 2 ≤ size → laying.AreLawful size laying.nothing_laid puts →
    capsules_in size (laying.half_frames_of size (laying.laid_all size laying.nothing_laid puts))
    ≡ map (λ (p : laying.Put). p.capsule) puts
laid_is_carried size [] large lawful =
    ap (capsules_in size) (nothing_framed size (omega (arith, large)))
    ∙ ends_after_none size []
    ∙ half_frames_end size [] 0 [] (omega (arith, large)) tt tt
laid_is_carried size (p ∷ puts) large lawful =
    let some : 0 < size = omega (arith, large) in
    let runs = runs_put (p.capsule ∷ []) puts in
    let lawful_p = first_put_begins size p puts some lawful in
    ap (capsules_in size) (first_puts_laid size p puts some lawful_p
    (lawful_some size laying.nothing_laid (p ∷ puts) lawful))
    ∙ ends_after_none size (stream (runs_pieces size runs))
    ∙ half_frames_end size [] 0 (runs_pieces size runs) some tt (runs_whole size runs some)
    ∙ runs_end size [] 0 runs some (first_puts_chained size p puts some lawful)
    ∙ capsules_put (p.capsule ∷ []) puts

pub rate_large : (rate : Rate) → 2 ≤ half_frame_body rate
rate_large R9600 = omega arith
rate_large R4800 = omega arith
rate_large R2400 = omega arith
rate_large R1200 = omega arith
