-- The first line of an input, and what is left behind it. Assumes nothing.
use Rattle.std.proofs.Common.{◌≡◌, ◌≢◌, ℕ, ◌<◌, ◌≤◌, ◌==◌, false, List, [], ◌∷◌, ◌++◌, length, slice_index, drop, refl, sym, ap, ◌∙◌, append-nil, length-append, arith}
use Rattle.std.proofs.Math.Seq.{get_or-append_seam}
use Rattle.std.proofs.lemmas.Bool.Decides.{nat_tests}
use Rattle.std.proofs.lemmas.List.{get_or_append_left}
use Rattle.std.proofs.lemmas.List.Elements.{All-from_get_or}
use Rattle.std.proofs.lemmas.List.Splits.{slice_split_at, slice_split_none, length-slice_split}
use Rattle.std.specs.List.{All, slice_split}
use Rattle.text.specs.Lines.{up_to_empty_end, input_lines}

-- a piece stands where another follows it
kept : (piece : List ℕ) (pieces : List (List ℕ)) → 0 < length pieces → up_to_empty_end (piece ∷ pieces) ≡ piece ∷ up_to_empty_end pieces
kept piece [] some = absurd (omega arith)
kept piece (next ∷ pieces) some = refl

-- it stands at the end where it is not empty
kept_last : (piece : List ℕ) → 0 < length piece → up_to_empty_end (piece ∷ []) ≡ piece ∷ []
kept_last [] some = absurd (omega arith)
kept_last (b ∷ bs) some = grind (arith, nat_tests)

no_feed : (line behind : List ℕ) → ((k : ℕ) → k < length line → slice_index (line ++ behind) k ≢ 10) → All (λ b. (b == 10) ≡ false) line
no_feed line behind none = All-from_get_or (λ b. (b == 10) ≡ false) line 0 (λ k within. grind (arith, nat_tests, none k within, get_or_append_left line behind 0 k within))

first_of :
    (line behind : List ℕ)
    → 0 < length (line ++ behind)
    → ((k : ℕ) → k < length line → slice_index (line ++ behind) k ≢ 10)
    → (length line < length (line ++ behind) → slice_index (line ++ behind) (length line) ≡ 10)
    → input_lines (line ++ behind) ≡ line ∷ input_lines (drop 1 behind)
first_of line [] some none feed =
    let pieces = slice_split_none (λ b. b == 10) line (no_feed line [] none) in
    let filled : 0 < length line = rw append-nil at some in
    ap input_lines (append-nil line) ∙ ap up_to_empty_end pieces ∙ kept_last line filled
first_of line (b ∷ more) some none feed =
    let is : b ≡ 10 = sym (get_or-append_seam line b more 0) ∙ feed (omega (arith, length-append line (b ∷ more))) in
    let pieces = slice_split_at (λ b. b == 10) line b more (no_feed line (b ∷ more) none) (grind (arith, nat_tests, is)) in
    ap up_to_empty_end pieces ∙ kept line (slice_split (λ b. b == 10) more) (omega (arith, length-slice_split (λ b. b == 10) more))

-- an input that is cut where its first line ends
pub first_line :
    (input line behind rest : List ℕ) (end : ℕ)
    → input ≡ line ++ behind
    → length line ≡ end
    → rest ≡ drop 1 behind
    → 0 < length input
    → ((k : ℕ) → 0 ≤ k → k < end → slice_index input k ≢ 10)
    → (end < length input → (0 ≤ end) × (slice_index input end ≡ 10))
    → input_lines input ≡ line ∷ input_lines rest
first_line input line behind rest end cut long past some none feed =
    let whole : length input ≡ length (line ++ behind) = ap length cut in
    rw (cut, past) (first_of line behind (omega (arith, whole, some)) (λ k within. rw cut at (none k (omega arith) (omega (arith, long, within)))) (λ within. let fed = feed (omega (arith, long, whole, within)) in rw (cut, ← long) at fed.1))
