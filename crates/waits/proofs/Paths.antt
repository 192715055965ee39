-- Paths: one after the other, over more edges, and over fewer.
use Rattle.std.proofs.Common.{ℕ, ◌+◌, ◌≤◌, ◌⊎◌, List, [], ◌∷◌, ◌++◌, sym, subst, inl, inr, add_assoc, arith}
use Rattle.records.specs.declared.tables.Edge.{Edge}
use Rattle.records.specs.Tables.{edge}
use Rattle.waits.specs.Events.{In, Path, last, step}

-- the delays of two paths, one after the other, add up
pub path_joined : {es : List Edge} {u w v c d : ℕ} → Path es u w c → Path es w v d → Path es u v (c + d)
path_joined (last {d = d} h) q = step d h q
path_joined {es} {u} {v = v} {d = t'} (step {t = t} d h p) q = subst (λ n. Path es u v n) (sym (add_assoc d t t')) (step d h (path_joined p q))

-- a path over es is a path over every list that has the edges of es
pub path_over_more : {es fs : List Edge} → ((e : Edge) → In e es → In e fs) → {u v d : ℕ} → Path es u v d → Path fs u v d
path_over_more more (last {u} {v} {d} h) = last (more (edge u v d) h)
path_over_more more (step {u} {w} d h p) = step d (more (edge u w d) h) (path_over_more more p)

pub in-++ : (e : Edge) (es fs : List Edge) → In e (es ++ fs) → In e es ⊎ In e fs
in-++ e [] fs h = inr h
in-++ e (f ∷ es) fs (inl q) = inl (inl q)
in-++ e (f ∷ es) fs (inr h) = elim (in-++ e es fs h) [ inl l ↦ inl (inr l) | inr r ↦ inr r ]

-- if each edge of fs has a path over es of at most its delay, a path over es and fs has one over es of at most its delay
pub path_over_fewer : (es fs : List Edge) → ((e : Edge) → In e fs → (d : ℕ) × (d ≤ e.delay) × Path es e.sender e.receiver d)
    → {u v t : ℕ} → Path (es ++ fs) u v t → (d : ℕ) × (d ≤ t) × Path es u v d
path_over_fewer es fs detour p = along p
  where
    short : (u v d : ℕ) → In (edge u v d) (es ++ fs) → (c : ℕ) × (c ≤ d) × Path es u v c
    short u v d h = elim (in-++ (edge u v d) es fs h) [ inl l ↦ (d, omega arith, last l) | inr r ↦ detour (edge u v d) r ]

    along : {u v t : ℕ} → Path (es ++ fs) u v t → (d : ℕ) × (d ≤ t) × Path es u v d
    along (last {u} {v} {d} h) = short u v d h
    along (step {u} {w} d h p) =
        let a = short u w d h in let b = along p in
        (a.0 + b.0, omega arith, path_joined a.2 b.2)
