-- One row changed in its place is the edit of the whole sheet. Assumes nothing.
use Rattle.std.proofs.Common.{◌≡◌, ℕ, ◌<◌, ◌≤◌, not, List, map, length, get_or, set, is_some, IfOk, Some, None, Ok, Err, Option, Result, sym, ap, ◌∙◌, subst, MatchResult}
use Rattle.std.specs.Option.{option_map}
use Rattle.std.proofs.lemmas.List.{map-set, set-get_or}
use Rattle.std.proofs.lemmas.Bool.{cond-false, le-ltb}
use Rattle.refusal.specs.declared.Refusal.{Refusal}
use Rattle.refusal.specs.declared.Refusal.TheVariants.{RowEmpty}
use Rattle.sheet.specs.declared.case.Case.{Case}
use Rattle.sheet.specs.declared.Sheet.{Sheet}
use Rattle.sheet.specs.declared.edit.Edit.TheVariants.{Allow}
use Rattle.sheet.specs.Contents.{Contents, Entry, contents, entry, case_in}
use Rattle.sheet.specs.Edits.{refusal, after, answer, check, slots_refusal, allowing}
use Rattle.sheet.proofs.Tables.{some_mapped, place_read, place_written}

-- a row is read (d is what a read past the end would give), and new is put in its place
module _ (s : Sheet) (row allowed : ℕ) (d new : Option Case) (low : row ≤ 15) (h : row < length s.rows) where
  in_row : case_in (contents s) row ≡ option_map entry (get_or s.rows row d)
  in_row = sym (place_read entry s.rows 15 row d low h)

  -- the whole edit is refused as the row is
  pub refused_alike : refusal (Allow row allowed) (contents s) ≡ check (not (is_some (get_or s.rows row d))) RowEmpty (slots_refusal allowed)
  refused_alike =
      cond-false _ _ _ (le-ltb 15 row low)
      ∙ ap (λ o. check (not (is_some o)) RowEmpty (slots_refusal allowed)) in_row
      ∙ ap (λ b. check (not b) RowEmpty (slots_refusal allowed)) (some_mapped entry (get_or s.rows row d))

  holding : List (Option Entry) → Contents
  holding rows = record { rows = rows; prices = (contents s).prices }

  by_refusal : (q : Option Refusal) (r : Result (Unit {0}) Refusal) → r ≡ answer q
      → MatchResult r (λ _. option_map entry new ≡ allowing allowed (option_map entry (get_or s.rows row d))) (λ _. new ≡ get_or s.rows row d)
      → record { rows = map (option_map entry) (set s.rows row new); prices = (contents s).prices } ≡ after q (Allow row allowed) (contents s)
  unfolding holding
  by_refusal None r e k =
      let k' = subst (λ r. MatchResult r (λ _. option_map entry new ≡ allowing allowed (option_map entry (get_or s.rows row d))) (λ _. new ≡ get_or s.rows row d)) e k in
      ap holding (map-set (option_map entry) s.rows row new ∙ ap (set (contents s).rows row) (k' ∙ ap (allowing allowed) (sym in_row)))
  by_refusal (Some x) r e k =
      let k' = subst (λ r. MatchResult r (λ _. option_map entry new ≡ allowing allowed (option_map entry (get_or s.rows row d))) (λ _. new ≡ get_or s.rows row d)) e k in
      ap (λ xs. holding (map (option_map entry) xs)) (ap (set s.rows row) k' ∙ set-get_or s.rows row d)

  -- and leaves what the row's change leaves
  pub left_alike : (r : Result (Unit {0}) Refusal) → r ≡ answer (check (not (is_some (get_or s.rows row d))) RowEmpty (slots_refusal allowed))
      → MatchResult r (λ _. option_map entry new ≡ allowing allowed (option_map entry (get_or s.rows row d))) (λ _. new ≡ get_or s.rows row d)
      → record { rows = map (option_map entry) (set s.rows row new); prices = (contents s).prices } ≡ after (refusal (Allow row allowed) (contents s)) (Allow row allowed) (contents s)
  left_alike r e k = by_refusal (refusal (Allow row allowed) (contents s)) r (e ∙ ap answer (sym refused_alike)) k

  -- and the row then holds the case with its new set
  pub done_alike : (r : Result (Unit {0}) Refusal)
      → MatchResult r (λ _. option_map entry new ≡ allowing allowed (option_map entry (get_or s.rows row d))) (λ _. new ≡ get_or s.rows row d)
      → IfOk r (λ _. case_in (record { rows = map (option_map entry) (set s.rows row new); prices = (contents s).prices }) row ≡ allowing allowed (case_in (contents s) row))
  done_alike (Ok x) k = place_written entry s.rows 15 row new low h ∙ k ∙ ap (allowing allowed) (sym in_row)
  done_alike (Err x) k = tt
