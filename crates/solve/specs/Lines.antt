-- The lines of a plan. Assumes nothing.
use Rattle.std.specs.Prelude.{ℕ, zero, suc, List, [], ◌∷◌, ◌++◌, drop, slice_index}
use Rattle.planning.specs.Plans.{Given, at_slot}
use Rattle.solve.specs.declared.line.Line.{Line}

-- the line of the case at place k: its row, its slot in the plan p, its charge
abbrev pub line_at : Given → List ℕ → List ℕ → ℕ → Line
line_at g rows p k = record { row = slice_index rows k; slot = slice_index p k; charge = at_slot g (slice_index g.needs k) (slice_index p k) }

-- the lines of n cases, from place k on
abbrev pub lines_from : Given → List ℕ → List ℕ → ℕ → ℕ → List Line
lines_from g rows p k zero = []
lines_from g rows p k (suc n) = line_at g rows p k ∷ lines_from g rows p (suc k) n

-- a plan list with the lines of a plan of n cases in its first places; the later places are unchanged
abbrev pub written : Given → List ℕ → List ℕ → ℕ → List Line → List Line
written g rows p n list = lines_from g rows p 0 n ++ drop n list
