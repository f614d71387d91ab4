-- What frames of half-frames end, one frame after another.
use Rattle.clean_frames.proofs.Common.{◌≡◌, ℕ, zero, suc, ◌+◌, ◌-◌, ◌*◌, ◌/◌, ◌<◌, ◌≤◌, Bool, false, List, [], ◌∷◌, ◌++◌, length, map, take}
use Rattle.clean_frames.proofs.Common.{refl, sym, ap, ◌∙◌, arith, append_assoc, flat_map, option_to_list, append-nil, map-append, places}
use Rattle.clean_frames.proofs.Common.{length-map-places, Piece, half_frame_capsule_ending, capsules_with_frames, frame_capsules, map-next}
use Rattle.clean_frames.proofs.Common.{flat_map-next, flat_map-nothing, flat_map-zero, map-zero, replicate, length-replicate, bits_of, scan}
use Rattle.clean_frames.proofs.Common.{replicate-append-replicate, take-replicate, ended_by-append, ended_by_bits, half_frame_ends, stream}
use Rattle.clean_frames.proofs.Common.{scan-append, told_in, whole-append, whole-map, with_number, zeros_end_none, stream-next}

-- ---- frame by frame

-- frames of two half-frames
pub record AreFrames (size : ℕ) (own : ℕ → List Bool) (f : ℕ → Piece) : Type 0 where
  pub long : (j : ℕ) → length (f j).body ≡ size
  pub each : (k : ℕ) → own k ≡ bits_of (f (2 * k)) ++ bits_of (f (suc (2 * k)))

two_more : (f : ℕ → Piece) (n : ℕ) → map f (places (2 * suc n))
    ≡ (map f (places (2 * n)) ++ f (2 * n) ∷ []) ++ f (suc (2 * n)) ∷ []
two_more f n =
    let e : 2 * suc n ≡ suc (suc (2 * n)) = omega arith in
    ap (λ (k : ℕ). map f (places k)) e
    ∙ map-next f (suc (2 * n))
    ∙ ap (λ (l : List Piece). l ++ f (suc (2 * n)) ∷ []) (map-next f (2 * n))

-- the bits of n frames are those of their half-frames
frames_stream : (size : ℕ) (own : ℕ → List Bool) (f : ℕ → Piece) (n : ℕ) → AreFrames size own f →
    flat_map own (places n) ≡ stream (map f (places (2 * n)))
frames_stream size own f zero are =
    let e : 2 * zero ≡ 0 = omega arith in
    flat_map-zero own ∙ sym (ap (λ (k : ℕ). stream (map f (places k))) e ∙ ap stream (map-zero f))
frames_stream size own f (suc n) are =
    let front = map f (places (2 * n)) in
    let a = f (2 * n) in
    let b = f (suc (2 * n)) in
    flat_map-next own n
    ∙ ap (λ (l : List Bool). l ++ own n) (frames_stream size own f n are)
    ∙ ap (λ (l : List Bool). stream front ++ l) (are.each n)
    ∙ sym (append_assoc (stream front) (bits_of a) (bits_of b))
    ∙ sym (ap stream (two_more f n) ∙ stream-next (front ++ a ∷ []) b
    ∙ ap (λ (l : List Bool). l ++ bits_of b) (stream-next front a))

-- what a frame after others ends
frame_ends : (size : ℕ) (own : ℕ → List Bool) (f : ℕ → Piece) (n : ℕ) → 0 < size → AreFrames size own f →
    frame_capsules size own n
    ≡ told_in size (map f (places (2 * n))) (f (2 * n)) ++
    told_in size (map f (places (2 * n)) ++ f (2 * n) ∷ []) (f (suc (2 * n)))
frame_ends size own f n large are =
    let front = map f (places (2 * n)) in
    let a = f (2 * n) in
    let b = f (suc (2 * n)) in
    let whole = whole-map size f (2 * n) (λ j lt. are.long j) in
    let next = whole-append size front (a ∷ []) whole (are.long (2 * n), tt) in
    ap (λ (l : List Bool). ended_by_bits size l (own n)) (frames_stream size own f n are)
    ∙ ap (ended_by_bits size (stream front)) (are.each n)
    ∙ ended_by-append size (stream front) (bits_of a) (bits_of b)
    ∙ ap (λ (l : List (List Bool)). l ++ ended_by_bits size (stream front ++ bits_of a) (bits_of b))
    (half_frame_ends size front a large whole (are.long (2 * n)))
    ∙ ap (λ (l : List (List Bool)). told_in size front a ++ l)
    (ap (λ (l : List Bool). ended_by_bits size l (bits_of b)) (sym (stream-next front a))
    ∙ half_frame_ends size (front ++ a ∷ []) b large next (are.long (suc (2 * n))))

-- the frame of a half-frame, counted from frame `first`
abbrev pub in_frame : ℕ → ℕ × List Bool → ℕ × List Bool
in_frame first x = (x.0 / 2 - first, x.1)

framed : (first o k : ℕ) (cs : List (List Bool)) → o / 2 - first ≡ k →
    map (in_frame first) (with_number o cs) ≡ with_number k cs
framed first o k [] e = refl
framed first o k (c ∷ cs) e =
    ap (λ (i : ℕ). (i, c) ∷ map (in_frame first) (with_number o cs)) e
    ∙ ap (λ (l : List (ℕ × List Bool)). (k, c) ∷ l) (framed first o k cs e)

-- the two half-frames of a frame
framed_two : (first n o : ℕ) (cs ds : List (List Bool)) → o / 2 - first ≡ n → suc o / 2 - first ≡ n →
    map (in_frame first) (with_number o cs ++ with_number (suc o) ds) ≡ map (λ (c : List Bool). (n, c)) (cs ++ ds)
framed_two first n o cs ds a b =
    map-append (in_frame first) (with_number o cs) (with_number (suc o) ds)
    ∙ ap (λ (l : List (ℕ × List Bool)). l ++ map (in_frame first) (with_number (suc o) ds)) (framed first o n cs a)
    ∙ ap (λ (l : List (ℕ × List Bool)). with_number n cs ++ l) (framed first (suc o) n ds b)
    ∙ sym (map-append (λ (c : List Bool). (n, c)) cs ds)

-- Another frame is two more half-frames: the scan returns what it returned for those before, and
-- then what each of the two ends, given all half-frames before it.
scan_two : (size first n : ℕ) (f : ℕ → Piece) → scan size [] (2 * first) (map f (places (2 * suc n)))
    ≡ scan size [] (2 * first) (map f (places (2 * n))) ++
    (with_number (2 * first + 2 * n) (told_in size (map f (places (2 * n))) (f (2 * n))) ++
    with_number (suc (2 * first + 2 * n))
    (told_in size (map f (places (2 * n)) ++ f (2 * n) ∷ []) (f (suc (2 * n)))))
scan_two size first n f =
    let front = map f (places (2 * n)) in
    let a = f (2 * n) in
    let b = f (suc (2 * n)) in
    let o = 2 * first + length front in
    let long : o ≡ 2 * first + 2 * n = ap (λ (k : ℕ). 2 * first + k) (length-map-places f (2 * n)) in
    let rest = λ (k : ℕ). with_number k (told_in size front a) ++
    with_number (suc k) (told_in size (front ++ a ∷ []) b) in
    ap (scan size [] (2 * first)) (two_more f n ∙ append_assoc front (a ∷ []) (b ∷ []))
    ∙ scan-append size [] (2 * first) front (a ∷ b ∷ [])
    ∙ ap (λ (l : List (ℕ × List Bool)). scan size [] (2 * first) front ++ (with_number o (told_in size front a) ++ l))
    (append-nil (with_number (suc o) (told_in size (front ++ a ∷ []) b)))
    ∙ ap (λ (k : ℕ). scan size [] (2 * first) front ++ rest k) long

-- What n frames end, each capsule with its frame, is what their half-frames end.
pub frames_scanned : (size : ℕ) (own : ℕ → List Bool) (f : ℕ → Piece) (first n : ℕ) → 0 < size → AreFrames size own f →
    capsules_with_frames size own n ≡ map (in_frame first) (scan size [] (2 * first) (map f (places (2 * n))))
frames_scanned size own f first zero large are =
    let e : 2 * zero ≡ 0 = omega arith in
    flat_map-zero (λ k. map (λ (c : List Bool). (k, c)) (frame_capsules size own k))
    ∙ sym (ap (λ (k : ℕ). map (in_frame first) (scan size [] (2 * first) (map f (places k)))) e
    ∙ ap (λ (l : List Piece). map (in_frame first) (scan size [] (2 * first) l)) (map-zero f))
frames_scanned size own f first (suc n) large are =
    let front = map f (places (2 * n)) in
    let cs = told_in size front (f (2 * n)) in
    let ds = told_in size (front ++ f (2 * n) ∷ []) (f (suc (2 * n))) in
    let o = 2 * first + 2 * n in
    let so_far = scan size [] (2 * first) front in
    let last = with_number o cs ++ with_number (suc o) ds in
    flat_map-next (λ k. map (λ (c : List Bool). (k, c)) (frame_capsules size own k)) n
    ∙ ap (λ (l : List (ℕ × List Bool)). l ++
    map (λ (c : List Bool). (n, c)) (frame_capsules size own n))
    (frames_scanned size own f first n large are)
    ∙ ap (λ (l : List (ℕ × List Bool)). map (in_frame first) so_far ++ l)
    (ap (map (λ (c : List Bool). (n, c))) (frame_ends size own f n large are)
    ∙ sym (framed_two first n o cs ds (omega arith) (omega arith)))
    ∙ sym (ap (map (in_frame first)) (scan_two size first n f)
    ∙ map-append (in_frame first) so_far last)

-- ---- frames of zeros

zero_frames : (own : ℕ → List Bool) (many n : ℕ) → ((k : ℕ) → k < n → own k ≡ replicate many false) →
    flat_map own (places n) ≡ replicate (many * n) false
zero_frames own many zero zeros =
    let e : many * zero ≡ 0 = omega arith in
    flat_map-zero own ∙ sym (ap (λ (k : ℕ). replicate k false) e)
zero_frames own many (suc n) zeros =
    let e : many * n + many ≡ many * suc n = omega arith in
    flat_map-next own n
    ∙ ap (λ (l : List Bool). l ++ own n) (zero_frames own many n (λ k lt. zeros k (omega (arith, lt))))
    ∙ ap (λ (l : List Bool). replicate (many * n) false ++ l) (zeros n (omega arith))
    ∙ replicate-append-replicate (many * n) many false
    ∙ ap (λ (k : ℕ). replicate k false) e

-- A frame of zeros after frames of zeros ends no capsule: with any number of its bits taken all
-- bits so far are zeros, and no capsule ends in them, since no half-frame has an SCI bit of 1 to
-- begin one.
zero_frame_ends_none : (size : ℕ) (own : ℕ → List Bool) (many n k : ℕ) → k < n →
    ((j : ℕ) → j < n → own j ≡ replicate many false) → frame_capsules size own k ≡ []
zero_frame_ends_none size own many n k lt zeros =
    let front = flat_map own (places k) in
    let same = zeros k lt in
    let before = zero_frames own many k (λ j less. zeros j (omega (arith, less, lt))) in
    flat_map-nothing (λ i. option_to_list (half_frame_capsule_ending size (front ++ take (i + 1) (own k))))
    (length (own k))
    (λ i less.
    let room : i + 1 ≤ many = omega (arith, less, ap length same, length-replicate many false) in
    ap (λ (l : List Bool). option_to_list (half_frame_capsule_ending size (l ++ take (i + 1) (own k)))) before
    ∙ ap (λ (l : List Bool). option_to_list (half_frame_capsule_ending size (replicate (many * k) false ++ l)))
    (ap (take (i + 1)) same ∙ take-replicate (i + 1) many false room)
    ∙ ap (λ (l : List Bool). option_to_list (half_frame_capsule_ending size l))
    (replicate-append-replicate (many * k) (i + 1) false)
    ∙ ap option_to_list (zeros_end_none size (many * k + (i + 1))))

-- frames of zeros end no capsule
pub zero_frames_end_none : (size : ℕ) (own : ℕ → List Bool) (many n : ℕ) →
    ((k : ℕ) → k < n → own k ≡ replicate many false) → capsules_with_frames size own n ≡ []
zero_frames_end_none size own many n zeros =
    flat_map-nothing (λ k. map (λ (c : List Bool). (k, c)) (frame_capsules size own k)) n
    (λ k lt. ap (map (λ (c : List Bool). (k, c))) (zero_frame_ends_none size own many n k lt zeros))
