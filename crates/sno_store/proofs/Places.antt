-- What a disk says of places, in terms of lists: what a write leaves of a file of lines.
use Rattle.std.proofs.Common.{◌≡◌, inl, inr, ℕ, refl, ◌+◌, ◌-◌, ◌<◌, ◌≤◌, max, List, [], ◌∷◌, ◌++◌, length, length-append, take, drop, get_or, replicate, sym, subst, ◌∙◌, ap, arith, ext_get_or, get_or-take, get_or-drop, take-append-drop, length-drop, append_assoc}
use Rattle.std.proofs.lemmas.List.{length-take, drop-drop, take_at, drop_at, take_all, drop_all, append-nil, length-replicate, drop-replicate, replicate-append-replicate}
use Rattle.std.proofs.lemmas.Bool.{cases_lt}
use Rattle.sqlite_disk.specs.Disk.{Holds, Torn, Mixed}
use Rattle.sno_store.specs.Lines.{recovered, bytes_of, IsWhole}
use Rattle.sno_store.specs.Store.{HasFirst}
use Rattle.sno_store.proofs.Scans.{AreLines, are_lines, bytes_of-append, recovered-front, split, front, tail}
use Rattle.sno_store.proofs.Batches.{Mix, mix_of, torn_batch, torn_tail, one_byte, zeros_hold_none, only_zeros_hold_none, get_or-zeros, zeros_some}

-- ---- one write, in three parts

module _ (at n : ℕ) (old new : List ℕ) (inside : at ≤ length old) (t : Torn at n old new) where
  abbrev pub middle : List ℕ
  middle = take n (drop at new)

  before : take at new ≡ take at old
  before = ext_get_or 0 _ _ (omega (arith, length-take at new, length-take at old, t.no_shorter)) λ i low.
      let below : i < at = omega (arith, length-take at new) in
      get_or-take at new i 0 below ∙ t.below i (omega arith) below ∙ sym (get_or-take at old i 0 below)

  after : drop (at + n) new ≡ drop (at + n) old
  after = ext_get_or 0 _ _ (omega (arith, length-drop (at + n) new, length-drop (at + n) old, t.no_shorter, t.no_longer)) λ i low.
      get_or-drop (at + n) new i 0 ∙ t.above (at + n + i) (omega (arith, length-drop (at + n) new, t.no_shorter, t.no_longer)) (omega arith) ∙ sym (get_or-drop (at + n) old i 0)

  pub three : new ≡ take at old ++ (middle ++ drop (at + n) old)
  three = sym (take-append-drop at new) ∙ ap (λ (l : List ℕ). take at new ++ l) (sym (take-append-drop n (drop at new)))
      ∙ ap (λ (l : List ℕ). l ++ (middle ++ drop n (drop at new))) before
      ∙ ap (λ (l : List ℕ). take at old ++ (middle ++ l)) (drop-drop n at new ∙ after)

  pub get_or-middle : (i : ℕ) → i < n → get_or middle i 0 ≡ get_or new (at + i) 0
  get_or-middle i low = get_or-take n (drop at new) i 0 low ∙ get_or-drop at new i 0

  pub length-middle : at + n ≤ length new → length middle ≡ n
  length-middle long = omega (arith, length-take n (drop at new), length-drop at new)

  pub middle_held : (bytes : List ℕ) → n ≡ length bytes → Holds new at bytes → middle ≡ bytes
  middle_held bytes size holds =
      let len : length middle ≡ length bytes = omega (arith, length-middle (omega (arith, holds.within, size)), size) in
      ext_get_or 0 _ _ len λ i low. get_or-middle i (omega (arith, len, size)) ∙ holds.each i (omega (arith, len))

-- ---- lines over zeros

module _ (olds news : List (List ℕ)) (are_old : AreLines olds) (are_new : AreLines news) (bytes : List ℕ) (whole : bytes ≡ bytes_of news) (file : List ℕ) (end room : ℕ) (size : end ≡ length (bytes_of olds)) (is : file ≡ bytes_of olds ++ replicate room 0) (fits : length bytes < room) where
  length-file : length file ≡ end + room
  length-file = omega (arith, size, ap length is, length-append (bytes_of olds) (replicate room 0), length-replicate {A = ℕ} room 0)

  zeros_after : drop end file ≡ replicate room 0
  zeros_after = ap (λ (l : List ℕ). drop end l) is ∙ drop_at (bytes_of olds) (replicate room 0) end (sym size)

  parts : (c : List ℕ) → Torn end (length bytes) file c → c ≡ bytes_of olds ++ (take (length bytes) (drop end c) ++ replicate (room - length bytes) 0)
  parts c t = three end (length bytes) file c (omega (arith, length-file)) t
      ∙ ap (λ (l : List ℕ). l ++ (take (length bytes) (drop end c) ++ drop (end + length bytes) file)) (ap (λ (l : List ℕ). take end l) is ∙ take_at (bytes_of olds) (replicate room 0) end (sym size))
      ∙ ap (λ (l : List ℕ). bytes_of olds ++ (take (length bytes) (drop end c) ++ l)) (sym (drop-drop (length bytes) end file) ∙ ap (λ (l : List ℕ). drop (length bytes) l) zeros_after ∙ drop-replicate (length bytes) room 0)

  crash_lines : (c m : List ℕ) → Torn end (length bytes) file c → m ≡ take (length bytes) (drop end c) → (past : List ℕ) → replicate (room - length bytes) 0 ≡ 0 ∷ past
      → recovered c ≡ olds ++ recovered (m ++ 0 ∷ past)
  crash_lines c m t is_middle past gap =
      ap recovered (parts c t ∙ ap (λ (l : List ℕ). bytes_of olds ++ (l ++ replicate (room - length bytes) 0)) (sym is_middle))
      ∙ recovered-front olds (m ++ replicate (room - length bytes) 0) are_old ∙ ap (λ (l : List ℕ). olds ++ recovered (m ++ l)) gap

  -- a crash in the write leaves the first of the new lines
  pub batch_crash : (c : List ℕ) → Mixed end bytes file c → HasFirst olds news c
  batch_crash c mixed =
      let m = take (length bytes) (drop end c) in
      let len : length m ≡ length bytes = length-middle end (length bytes) file c (omega (arith, length-file)) mixed.torn (omega (arith, mixed.torn.no_shorter, length-file, fits)) in
      let mix : Mix m bytes = mix_of m bytes len (λ i low. elim (mixed.each i low (omega (arith, length-file, fits))) [
        | inl same ↦ inl (get_or-middle end (length bytes) file c (omega (arith, length-file)) mixed.torn i low ∙ same ∙ sym (get_or-drop end file i 0) ∙ ap (λ (l : List ℕ). get_or l i 0) zeros_after ∙ get_or-zeros room i)
        | inr same ↦ inr (get_or-middle end (length bytes) file c (omega (arith, length-file)) mixed.torn i low ∙ same)
      ]) in
      let gap = zeros_some (room - length bytes) (omega (arith, fits)) in
      let first = torn_batch m news gap.0 are_new (subst (Mix m) whole mix) in
      (first.0, crash_lines c m mixed.torn refl gap.0 gap.1 ∙ ap (λ (ls : List (List ℕ)). olds ++ ls) first.1)

  -- the whole write leaves all of them, and the zeros after them
  pub batch_added : (c : List ℕ) → Torn end (length bytes) file c → Holds c end bytes
      → (end + length bytes ≡ length (bytes_of (olds ++ news))) × (c ≡ bytes_of (olds ++ news) ++ replicate (room - length bytes) 0)
  batch_added c t holds =
      let joined = bytes_of-append olds news in
      let is_middle : take (length bytes) (drop end c) ≡ bytes_of news = middle_held end (length bytes) file c (omega (arith, length-file)) t bytes refl holds ∙ whole in (
        omega (arith, size, ap length joined, length-append (bytes_of olds) (bytes_of news), ap length whole),
        parts c t ∙ ap (λ (l : List ℕ). bytes_of olds ++ (l ++ replicate (room - length bytes) 0)) is_middle
            ∙ sym (append_assoc (bytes_of olds) (bytes_of news) (replicate (room - length bytes) 0)) ∙ ap (λ (l : List ℕ). l ++ replicate (room - length bytes) 0) (sym joined),
      )

-- ---- zeros over the tail of a file, or one zero past its end

module _ (file : List ℕ) (end room n : ℕ) (size : end ≡ length (bytes_of (recovered file))) (all : end + room ≡ length file) (count : n ≡ max room 1) (bytes : List ℕ) (are_zeros : bytes ≡ replicate n 0) where
  abbrev lines : List (List ℕ)
  lines = recovered file

  length-bytes : length bytes ≡ n
  length-bytes = ap length are_zeros ∙ length-replicate {A = ℕ} n 0

  over_parts : (c : List ℕ) → Torn end (length bytes) file c → c ≡ bytes_of lines ++ take (length bytes) (drop end c)
  over_parts c t = three end (length bytes) file c (omega (arith, all)) t
      ∙ ap (λ (l : List ℕ). take end file ++ (take (length bytes) (drop end c) ++ l)) (drop_all (end + length bytes) file (omega (arith, all, count, length-bytes)))
      ∙ ap (λ (l : List ℕ). take end file ++ l) (append-nil (take (length bytes) (drop end c)))
      ∙ ap (λ (l : List ℕ). l ++ take (length bytes) (drop end c)) (front file end size)

  over_middle : (c : List ℕ) → Mixed end bytes file c → recovered (take (length bytes) (drop end c)) ≡ []
  over_middle c mixed =
      let m = take (length bytes) (drop end c) in
      elim (cases_lt 0 room) [
        | inl some ↦
            let same : length bytes ≡ room = omega (arith, count, length-bytes) in
            let len : length m ≡ length (drop end file) = omega (arith, length-middle end (length bytes) file c (omega (arith, all)) mixed.torn (omega (arith, mixed.torn.no_shorter, all, same)), length-drop end file, all) in
            torn_tail m (drop end file) (tail file end size) (mix_of m (drop end file) len (λ i low.
            let below : i < length bytes = omega (arith, length-drop end file, all) in
            let first = get_or-middle end (length bytes) file c (omega (arith, all)) mixed.torn i below in
            elim (mixed.each i below (omega (arith, all))) [
              | inl old ↦ inr (first ∙ old ∙ sym (get_or-drop end file i 0))
              | inr new ↦ inl (first ∙ new ∙ ap (λ (l : List ℕ). get_or l i 0) are_zeros ∙ get_or-zeros n i)
            ]))
        | inr none ↦ one_byte m (omega (arith, count, length-bytes, length-take (length bytes) (drop end c)))
      ]

  -- a crash in the write leaves the same lines
  pub over_crash : (c : List ℕ) → Mixed end bytes file c → recovered c ≡ lines
  over_crash c mixed =
      ap recovered (over_parts c mixed.torn) ∙ recovered-front lines (take (length bytes) (drop end c)) (are_lines file)
      ∙ ap (λ (ls : List (List ℕ)). lines ++ ls) (over_middle c mixed) ∙ append-nil lines

  -- the whole write leaves them and zeros
  pub over_done : (c : List ℕ) → Torn end (length bytes) file c → Holds c end bytes → c ≡ bytes_of lines ++ replicate n 0
  over_done c t holds =
      over_parts c t ∙ ap (λ (l : List ℕ). bytes_of lines ++ l) (middle_held end (length bytes) file c (omega (arith, all)) t bytes refl holds ∙ are_zeros)

-- ---- zeros past the end of a file

module _ (lines : List (List ℕ)) (are : AreLines lines) (file : List ℕ) (end room n : ℕ) (size : end ≡ length (bytes_of lines)) (is : file ≡ bytes_of lines ++ replicate room 0) (some : 0 < room) (bytes : List ℕ) (are_zeros : bytes ≡ replicate n 0) where
  grown_length : length file ≡ end + room
  grown_length = omega (arith, size, ap length is, length-append (bytes_of lines) (replicate room 0), length-replicate {A = ℕ} room 0)

  grown_parts : (c : List ℕ) → Torn (end + room) (length bytes) file c → c ≡ bytes_of lines ++ (replicate room 0 ++ take (length bytes) (drop (end + room) c))
  grown_parts c t = three (end + room) (length bytes) file c (omega (arith, grown_length)) t
      ∙ ap (λ (l : List ℕ). take (end + room) file ++ (take (length bytes) (drop (end + room) c) ++ l)) (drop_all (end + room + length bytes) file (omega (arith, grown_length)))
      ∙ ap (λ (l : List ℕ). take (end + room) file ++ l) (append-nil (take (length bytes) (drop (end + room) c)))
      ∙ ap (λ (l : List ℕ). l ++ take (length bytes) (drop (end + room) c)) (take_all (end + room) file (omega (arith, grown_length)) ∙ is)
      ∙ append_assoc (bytes_of lines) (replicate room 0) (take (length bytes) (drop (end + room) c))

  -- a crash in the write leaves the same lines, whatever it leaves past the end
  pub grown_crash : (c : List ℕ) → Mixed (end + room) bytes file c → recovered c ≡ lines
  grown_crash c mixed =
      let past = take (length bytes) (drop (end + room) c) in
      ap recovered (grown_parts c mixed.torn) ∙ recovered-front lines (replicate room 0 ++ past) are
      ∙ ap (λ (ls : List (List ℕ)). lines ++ ls) (zeros_hold_none room past some) ∙ append-nil lines

  pub grown_done : (c : List ℕ) → Torn (end + room) (length bytes) file c → Holds c (end + room) bytes → c ≡ bytes_of lines ++ replicate (room + n) 0
  grown_done c t holds =
      grown_parts c t ∙ ap (λ (l : List ℕ). bytes_of lines ++ (replicate room 0 ++ l)) (middle_held (end + room) (length bytes) file c (omega (arith, grown_length)) t bytes refl holds ∙ are_zeros)
      ∙ ap (λ (l : List ℕ). bytes_of lines ++ l) (replicate-append-replicate room n 0)

-- ---- what is known of a file of lines and zeros

module _ (lines : List (List ℕ)) (are : AreLines lines) (file : List ℕ) (end room : ℕ) (size : end ≡ length (bytes_of lines)) (is : file ≡ bytes_of lines ++ replicate room 0) where
  pub its_lines : recovered file ≡ lines
  its_lines = ap recovered is ∙ recovered-front lines (replicate room 0) are ∙ ap (λ (ls : List (List ℕ)). lines ++ ls) (only_zeros_hold_none room) ∙ append-nil lines

  pub its_end : end ≡ length (bytes_of (recovered file))
  its_end = size ∙ ap (λ (ls : List (List ℕ)). length (bytes_of ls)) (sym its_lines)

  pub its_length : end + room ≡ length file
  its_length = omega (arith, size, ap length is, length-append (bytes_of lines) (replicate room 0), length-replicate {A = ℕ} room 0)

  pub its_zeros : drop end file ≡ replicate room 0
  its_zeros = ap (λ (l : List ℕ). drop end l) is ∙ drop_at (bytes_of lines) (replicate room 0) end (sym size)

pub file_is : (file : List ℕ) (end room : ℕ) → end ≡ length (bytes_of (recovered file)) → drop end file ≡ replicate room 0 → file ≡ bytes_of (recovered file) ++ replicate room 0
file_is file end room size zeros = split file end size ∙ ap (λ (l : List ℕ). bytes_of (recovered file) ++ l) zeros

-- zeros after the lines, by their number or by where the lines end
pub whole_if : (file : List ℕ) (end room : ℕ) → end ≡ length (bytes_of (recovered file)) → end + room ≡ length file → room ≡ 0 → IsWhole file
whole_if file end room size all none = (0, split file end size ∙ ap (λ (l : List ℕ). bytes_of (recovered file) ++ l) (drop_all end file (omega (arith, all, none))))

pub whole_then : (file : List ℕ) (end room : ℕ) → end ≡ length (bytes_of (recovered file)) → end + room ≡ length file → IsWhole file → drop end file ≡ replicate room 0
whole_then file end room size all (n, is) =
    let count : n ≡ room = omega (arith, size, all, ap length is, length-append (bytes_of (recovered file)) (replicate n 0), length-replicate {A = ℕ} n 0) in
    ap (λ (l : List ℕ). drop end l) is ∙ drop_at (bytes_of (recovered file)) (replicate n 0) end (sym size) ∙ ap (λ (k : ℕ). replicate k 0) count
