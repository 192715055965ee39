-- A row changed link by link: one guard after the other, and what it comes to.
use Rattle.std.proofs.Common.{◌≡◌, ℕ, zero, suc, ◌+◌, ◌<◌, ◌≤◌, Bool, false, List, [], ◌∷◌, map, length, get_or, take, set, ap, ◌∙◌, subst, arith, take_all}
use Rattle.std.proofs.lemmas.List.{set-get_or}
use Rattle.records.specs.declared.tables.Link.{Link}
use Rattle.records.specs.Tables.{no_link}
use Rattle.guards.specs.Levels.{Level}
use Rattle.running.specs.Rows.{each}
use Rattle.runs.specs.Alone.{at, Stand}
use Rattle.runs.specs.Changes.{Changed}

module _ {G : Type 0} (becomes : Link → G → G → Type 0) where
  next_changed : (i : ℕ) (links : List Link) (before after : List G) (g v : G) → i < length links → i < length after
      → g ≡ get_or after i g → becomes (get_or links i no_link) g v → Changed becomes (take i links) before after
      → Changed becomes (take (suc i) links) before (set after i v)
  next_changed i [] before after g v hl hr is b c = absurd (omega arith)
  next_changed zero (l ∷ ls) before [] g v hl hr is b c = absurd (omega arith)
  next_changed zero (l ∷ ls) [] (y ∷ ys) g v hl hr is b c = let z : ◌≡◌ {A = ℕ} 0 1 = cc in absurd (omega arith)
  next_changed zero (l ∷ ls) (x ∷ xs) (y ∷ ys) g v hl hr is b c =
      let same : y ≡ x = cc in
      let rest : ys ≡ xs = cc in
      (subst (λ w. becomes l w v) (is ∙ same) b, rest)
  next_changed (suc i) (l ∷ ls) before [] g v hl hr is b c = absurd (omega arith)
  next_changed (suc i) (l ∷ ls) [] (y ∷ ys) g v hl hr is b c = let z : ◌≡◌ {A = ℕ} 0 1 = cc in absurd (omega arith)
  next_changed (suc i) (l ∷ ls) (x ∷ xs) (y ∷ ys) g v hl hr is b c = (c.0, next_changed i ls xs ys g v (omega arith) (omega arith) is b c.1)

  -- one more guard is changed
  pub changed_more : (i : ℕ) (links : List Link) (before after : List G) (g v : G) → i < length links → i < length after
      → g ≡ get_or after i g → becomes (get_or links i no_link) g v → Changed becomes (take i links) before after
      → Changed becomes (take (i + 1) links) before (set after i v)
  changed_more i links before after g v hl hr is b c =
      let next : suc i ≡ i + 1 = omega arith in
      subst (λ k. Changed becomes (take k links) before (set after i v)) next (next_changed i links before after g v hl hr is b c)

  -- past the links nothing is left to change, and the guard that was looked at stands
  pub changed_past : (i : ℕ) (links : List Link) (before after : List G) (g : G) → length links ≤ i → Changed becomes (take i links) before after
      → Changed becomes links before (set after i (get_or after i g))
  changed_past i links before after g h c =
      rw (set-get_or after i g) (subst (λ ls. Changed becomes ls before after) (take_all i links h) c)

  pub changed_all : (i : ℕ) (links : List Link) (before after : List G) → length after ≤ i → Changed becomes (take i links) before after → Changed becomes links before after
  changed_all zero [] before after h c = c
  changed_all (suc i) [] before after h c = c
  changed_all zero (l ∷ ls) [] after h c = c
  changed_all zero (l ∷ ls) (x ∷ xs) [] h c = let z : ◌≡◌ {A = ℕ} 0 1 = cc in absurd (omega arith)
  changed_all zero (l ∷ ls) (x ∷ xs) (y ∷ ys) h c = absurd (omega arith)
  changed_all (suc i) (l ∷ ls) [] after h c = c
  changed_all (suc i) (l ∷ ls) (x ∷ xs) [] h c = c
  changed_all (suc i) (l ∷ ls) (x ∷ xs) (y ∷ ys) h c = (c.0, changed_all i ls xs ys (omega arith) c.1)

  pub changed_levels : (level : G → Level) (change : Link → Level → Level) → ((l : Link) (x y : G) → becomes l x y → level y ≡ change l (level x))
      → (links : List Link) (before after : List G) → Changed becomes links before after → map level after ≡ each change links (map level before)
  changed_levels level change says [] before after c = ap (map level) c
  changed_levels level change says (l ∷ ls) [] after c = ap (map level) c
  changed_levels level change says (l ∷ ls) (x ∷ xs) [] c = absurd c
  changed_levels level change says (l ∷ ls) (x ∷ xs) (y ∷ ys) c =
      ap (λ w. w ∷ map level ys) (says l x y c.0) ∙ ap (λ ws. change l (level x) ∷ ws) (changed_levels level change says ls xs ys c.1)

  pub changed_stand : (test : Link → Bool) → ((l : Link) (x y : G) → becomes l x y → test l ≡ false → y ≡ x)
      → (links : List Link) (before after : List G) → Changed becomes links before after → Stand test links before after
  changed_stand test says [] before after c k h = ap (at k) c
  changed_stand test says (l ∷ ls) [] after c k h = ap (at k) c
  changed_stand test says (l ∷ ls) (x ∷ xs) [] c k h = absurd c
  changed_stand test says (l ∷ ls) (x ∷ xs) (y ∷ ys) c zero h = ap (λ w. w ∷ []) (says l x y c.0 (h (omega arith)))
  changed_stand test says (l ∷ ls) (x ∷ xs) (y ∷ ys) c (suc k) h = changed_stand test says ls xs ys c.1 k (λ m. h (omega (arith, m)))
