-- The back links by kind: each joins two groups of a chain that follow on each other, or closes a part.
use Rattle.std.proofs.Common.{◌≡◌, ℕ, true, cond, ◌⊎◌, List, [], ◌∷◌, ◌++◌, map, Some, None, sym, refl, ap, ◌∙◌, subst, inl, inr}
use Rattle.std.proofs.lemmas.Bool.{cases_Bool, cond-true, cond-false}
use Rattle.records.specs.declared.tables.Edge.{Edge}
use Rattle.records.specs.declared.tables.Link.{Link}
use Rattle.records.specs.Tables.{link_edge}
use Rattle.waits.specs.Events.{In}
use Rattle.planning.specs.declared.End.TheVariants.{Entry, Exit}
use Rattle.planning.specs.Backs.{Ground, back_link, chain, closing, groups_of, stand, part_backs, wants_backs, backs_among}
use Rattle.meaning.proofs.Rising.{Has, has_map, map_has, has-++, has_left, has_right, Next}

pub in_map : (bs : List Link) (e : Edge) → In e (map link_edge bs) → (b : Link) × Has b bs × (e ≡ link_edge b)
in_map bs e i = map_has link_edge bs e i

pub map_in : (bs : List Link) (b : Link) → Has b bs → In (link_edge b) (map link_edge bs)
map_in bs b h = has_map link_edge bs b h

-- b joins the groups of two heads of us, the second directly after the first
abbrev pub Chained : Ground → List ℕ → Link → Type 0
Chained g us b = (u : ℕ) × (w : ℕ) × Next u w us × (b ≡ back_link (stand g u) (stand g w) 0)

chain_after : (g : Ground) (x : ℕ) (us : List ℕ) (b : Link) → Has b (chain g (Some x) us) → Chained g (x ∷ us) b
chain_after g x [] b h = absurd h
chain_after g x (y ∷ us) b (inl e) = (x, y, inl (refl, refl), e)
chain_after g x (y ∷ us) b (inr h) = let r = chain_after g y us b h in (r.0, r.1, inr r.2, r.3)

pub chain_chained : (g : Ground) (us : List ℕ) (b : Link) → Has b (chain g None us) → Chained g us b
chain_chained g [] b h = absurd h
chain_chained g (x ∷ us) b h = chain_after g x us b h

after_chain : (g : Ground) (x : ℕ) (us : List ℕ) (b : Link) → Chained g (x ∷ us) b → Has b (chain g (Some x) us)
after_chain g x [] b c = absurd c.2
after_chain g x (y ∷ us) b (u, w, inl q, e) = inl (e ∙ ap (λ i. back_link (stand g i) (stand g w) 0) q.0 ∙ ap (λ j. back_link (stand g x) (stand g j) 0) q.1)
after_chain g x (y ∷ us) b (u, w, inr h, e) = inr (after_chain g y us b (u, w, h, e))

pub chained_chain : (g : Ground) (us : List ℕ) (b : Link) → Chained g us b → Has b (chain g None us)
chained_chain g [] b c = absurd c.2
chained_chain g (x ∷ us) b c = after_chain g x us b c

-- a back link of the part of p
abbrev pub Kind : Ground → ℕ → ℕ → Link → Type 0
Kind g lead p b = Chained g (groups_of g Entry p) b ⊎ (Chained g (groups_of g Exit p) b ⊎ (b ≡ closing g lead p))

pub part_kind : (g : Ground) (lead p : ℕ) (b : Link) → Has b (part_backs g lead p) → Kind g lead p b
unfolding part_backs
part_kind g lead p b h = elim (has-++ b (chain g None (groups_of g Entry p)) (chain g None (groups_of g Exit p) ++ (closing g lead p ∷ [])) h) [
  | inl c ↦ inl (chain_chained g (groups_of g Entry p) b c)
  | inr r ↦ elim (has-++ b (chain g None (groups_of g Exit p)) (closing g lead p ∷ []) r) [
    | inl c ↦ inr (inl (chain_chained g (groups_of g Exit p) b c))
    | inr (inl e) ↦ inr (inr e)
    | inr (inr no_more) ↦ absurd no_more
  ]
]

pub kind_part : (g : Ground) (lead p : ℕ) (b : Link) → Kind g lead p b → Has b (part_backs g lead p)
unfolding part_backs
kind_part g lead p b (inl c) =
    has_left b (chain g None (groups_of g Entry p)) (chain g None (groups_of g Exit p) ++ (closing g lead p ∷ [])) (chained_chain g (groups_of g Entry p) b c)
kind_part g lead p b (inr (inl c)) =
    has_right b (chain g None (groups_of g Entry p)) (chain g None (groups_of g Exit p) ++ (closing g lead p ∷ []))
    (has_left b (chain g None (groups_of g Exit p)) (closing g lead p ∷ []) (chained_chain g (groups_of g Exit p) b c))
kind_part g lead p b (inr (inr e)) =
    has_right b (chain g None (groups_of g Entry p)) (chain g None (groups_of g Exit p) ++ (closing g lead p ∷ []))
    (has_right b (chain g None (groups_of g Exit p)) (closing g lead p ∷ []) (inl e))

-- a back link of some part that p of ps is the lowest actor of
abbrev pub Back : Ground → ℕ → List ℕ → Link → Type 0
Back g lead ps b = (p : ℕ) × Has p ps × (wants_backs g p ≡ true) × Has b (part_backs g lead p)

pub backs_back : (g : Ground) (lead : ℕ) (ps : List ℕ) (b : Link) → Has b (backs_among g lead ps) → Back g lead ps b
backs_back g lead [] b h = absurd h
backs_back g lead (p ∷ ps) b h = elim (has-++ b (cond (wants_backs g p) (part_backs g lead p) []) (backs_among g lead ps) h) [
  | inl c ↦ elim (cases_Bool (wants_backs g p)) [
    | inl t ↦ (p, inl refl, t, subst (λ l. Has b l) (cond-true (wants_backs g p) (part_backs g lead p) [] t) c)
    | inr f ↦ absurd (subst (λ l. Has b l) (cond-false (wants_backs g p) (part_backs g lead p) [] f) c)
  ]
  | inr r ↦ let s = backs_back g lead ps b r in (s.0, inr s.1, s.2, s.3)
]

pub back_backs : (g : Ground) (lead : ℕ) (ps : List ℕ) (b : Link) → Back g lead ps b → Has b (backs_among g lead ps)
back_backs g lead [] b (p, h, t, k) = absurd h
back_backs g lead (q ∷ ps) b (p, inl e, t, k) =
    has_left b (cond (wants_backs g q) (part_backs g lead q) []) (backs_among g lead ps)
    (subst (λ l. Has b l) (sym (cond-true (wants_backs g q) (part_backs g lead q) [] (subst (λ x. wants_backs g x ≡ true) e t))) (subst (λ x. Has b (part_backs g lead x)) e k))
back_backs g lead (q ∷ ps) b (p, inr h, t, k) =
    has_right b (cond (wants_backs g q) (part_backs g lead q) []) (backs_among g lead ps) (back_backs g lead ps b (p, h, t, k))
