use Rattle.std.proofs.Common.{◌≡◌, ℕ, ◌<◌, ◌≤◌, get_or}
use Rattle.search.specs.Trails.{Alike, Since}
use Rattle.search.proofs.trail.Trail.adopt.Given as goal

-- the rows passed so far have their new sets, and the others their old ones
abbrev pub invariant-loop-row : goal.invariant-loop-row
invariant-loop-row l = record {
  since : Since l.initial.self l.self;
  sheet : Alike l.initial.self.sheet l.self.sheet;
  passed : (k : ℕ) → k < l.row → get_or l.self.sheet.sets k 0 ≡ get_or l.new k 0;
  left : (k : ℕ) → l.row ≤ k → get_or l.self.sheet.sets k 0 ≡ get_or l.initial.self.sheet.sets k 0;
}
