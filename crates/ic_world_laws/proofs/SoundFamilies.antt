-- Families that differ from a sound family in one collection, in one field, or in one object, and are sound, too.
use Rattle.std.proofs.Common.{◌≡◌, ◌≢◌, ◌⊎◌, inl, inr, ℕ, ◌<◌, ◌≤◌, ◌^◌, Bool, true, false, cond, nat_lt, List, [], ◌∷◌, ◌++◌, length, get_or, set, Option, Some, None, is_some, refl, sym, ap, ◌∙◌, subst, arith, ltb-true, true≢false, ne_eqb, nat_cmp}
use Rattle.std.proofs.lemmas.Bool.{cases_eq, lt-ltb}
use Rattle.std.proofs.lemmas.List.{get_or-set_same, get_or-set_other, get_or_past, get_or_append_left, get_or_push, length-append, length-set}
use Rattle.std.specs.Cmp.{nat_cmp_total, unsigned_tied}
use Rattle.std.specs.FinSet as set_of
use Rattle.std.specs.FinSet.{contains-empty}
use Rattle.std.specs.FinMap as map_of
use Rattle.std.specs.FinMap.{get-insert, get-remove}
use Rattle.std.proofs.lemmas.List.Folds.{list_any_at}
use Rattle.ic_link_ops.specs.Prelude.{Place, index_of, IsAbsent, IsMember, IsDistinct, IsDisjoint}
use Rattle.ic_link_ops.proofs.SequenceLemmas.{some_same, none_not, disjoint_sym}
use Rattle.ic_any_collection.specs.declared.kind.Kind.{Kind}
use Rattle.ic_any_collection.specs.declared.kind.Kind.TheVariants.{Singly}
use Rattle.ic_any_collection.specs.Kinds.{carries}
use Rattle.ic_world.specs.Prelude.{Family, LinkField, Sequence, collection, field_of, linked_of, has_field, is_placed, is_linked_somewhere, with_linked, with_collection, with_opened, IsSoundIn, IsSound}
use Rattle.ic_world.proofs.Linked.{side}
use Rattle.ic_world.proofs.Readings.{some_within}
use Rattle.ic_world_laws.proofs.SoundCalls.{member_out, still_in, in_less}

-- the item at the index c was set to o. An item at an index d is then o if d is c, and otherwise the old item at d
pub which_at : {X : Type 0} (xs : List (Option X)) (c : ℕ) (o : Option X) {x : X} → get_or xs c None ≡ Some x → (d : ℕ) (y : X) → get_or (set xs c o) d None ≡ Some y
    → ((d ≡ c) × (o ≡ Some y)) ⊎ ((d ≢ c) × (get_or xs d None ≡ Some y))
which_at xs c o is d y e = elim (cases_eq d c) [
  | inl same ↦ inl (same, sym (get_or-set_same xs c o None (some_within xs c is)) ∙ ap (λ i. get_or (set xs c o) i None) (sym same) ∙ e)
  | inr n ↦ inr (n, sym (get_or-set_other xs c d o None n) ∙ e)
]

-- if the linked places of the field f are set to l, f has the linked places l, and all other fields stay. The kinds of all fields stay
module _ {A V : Type 0} (w : Family A V) (f : ℕ) (l : set_of.FinSet nat_cmp) where
  pub has_still : (g : ℕ) → has_field w g ≡ true → has_field (with_linked w f l) g ≡ true
  has_still g h = ap (λ n. nat_lt g n) (length-set w.fields f _) ∙ h

  pub linked_there : has_field w f ≡ true → linked_of (with_linked w f l) f ≡ l
  linked_there h = ap (λ (x : LinkField). x.linked) (get_or-set_same w.fields f _ _ (ltb-true f (length w.fields) h))

  pub linked_elsewhere : (g : ℕ) → g ≢ f → linked_of (with_linked w f l) g ≡ linked_of w g
  linked_elsewhere g d = ap (λ (x : LinkField). x.linked) (get_or-set_other w.fields f g _ _ d)

  pub kind_still : has_field w f ≡ true → (g : ℕ) → (field_of (with_linked w f l) g).kind ≡ (field_of w g).kind
  kind_still h g = elim (cases_eq g f) [
    | inl e ↦
        ap (λ x. (field_of (with_linked w f l) x).kind) e
        ∙ ap (λ (x : LinkField). x.kind) (get_or-set_same w.fields f _ _ (ltb-true f (length w.fields) h))
        ∙ ap (λ x. (field_of w x).kind) (sym e)
    | inr d ↦ ap (λ (x : LinkField). x.kind) (get_or-set_other w.fields f g _ _ d)
  ]

-- a member of another collection of the field is linked in the field, and is not a member of s
pub outside : {A V : Type 0} (w : Family A V) → IsSound w → (c : ℕ) (s : Sequence) → collection w c ≡ Some s → (d : ℕ) (r : Sequence) → d ≢ c → collection w d ≡ Some r → r.field ≡ s.field
    → (p : Place) → IsMember p r.members → (set_of.contains (linked_of w s.field) (index_of p) ≡ true) × IsAbsent p s.members
outside w sound c s is d r n e f p member = (
  ap (λ g. set_of.contains (linked_of w g) (index_of p)) (sym f) ∙ (sound.collections d r e).linked p member,
  member_out r.members s.members (sound.apart.1 d c r s n e is f) p member,
)

module _ {A V : Type 0} (w : Family A V) (c : ℕ) (s : Sequence) (l : set_of.FinSet nat_cmp) where
  -- WHAT IS REQUIRED OF A COLLECTION x that replaces s, if its field then has the linked places l
  pub record Fits (x : Sequence) : Type 0 where
    pub field : x.field ≡ s.field
    pub kind : x.kind ≡ s.kind
    pub distinct : IsDistinct x.members
    pub linked : (p : Place) → IsMember p x.members → set_of.contains l (index_of p) ≡ true
    pub cursor : (p : Place) → x.cursor ≡ Some p → IsMember p x.members
    pub beside : (d : ℕ) (r : Sequence) → d ≢ c → collection w d ≡ Some r → r.field ≡ s.field → IsDisjoint r.members x.members

  -- what is required of the new linked places l: each linked place that is no member of s stays linked, and there is an object at each place of l
  pub record Relinks : Type 0 where
    pub others : (q : Place) → set_of.contains (linked_of w s.field) (index_of q) ≡ true → IsAbsent q s.members → set_of.contains l (index_of q) ≡ true
    pub placed : (q : Place) → set_of.contains l (index_of q) ≡ true → is_placed w q ≡ true

-- ONE COLLECTION IS REPLACED by o, and the linked places of its field by l. The new family is sound
module _ {A V : Type 0} (w : Family A V) (sound : IsSound w) (c : ℕ) (s : Sequence) (is : collection w c ≡ Some s) (o : Option Sequence) (l : set_of.FinSet nat_cmp)
    (fits : (x : Sequence) → o ≡ Some x → Fits w c s l x) (relinks : Relinks w c s l) where
  abbrev new : Family A V
  new = with_linked (with_collection w c o) s.field l

  there : has_field w s.field ≡ true
  there = (sound.collections c s is).in_field

  pub contains_there : (f : ℕ) (p : Place) → f ≡ s.field → set_of.contains (linked_of new f) (index_of p) ≡ set_of.contains l (index_of p)
  contains_there f p e = ap (λ g. set_of.contains (linked_of new g) (index_of p)) e ∙ ap (λ u. set_of.contains u (index_of p)) (linked_there w s.field l there)

  contains_elsewhere : (f : ℕ) (p : Place) → f ≢ s.field → set_of.contains (linked_of new f) (index_of p) ≡ set_of.contains (linked_of w f) (index_of p)
  contains_elsewhere f p d = ap (λ u. set_of.contains u (index_of p)) (linked_elsewhere w s.field l f d)

  placed_in : (f : ℕ) (p : Place) → set_of.contains (linked_of new f) (index_of p) ≡ true → is_placed new p ≡ true
  placed_in f p h = elim (cases_eq f s.field) [
    | inl e ↦ relinks.placed p (sym (contains_there f p e) ∙ h)
    | inr d ↦ sound.placed f p (sym (contains_elsewhere f p d) ∙ h)
  ]

  mine : (r : Sequence) → o ≡ Some r → IsSoundIn new r
  mine r e =
      let x = fits r e in
      record {
        in_field = has_still w s.field l r.field (subst (λ g. has_field w g ≡ true) (sym x.field) there);
        carried = ap (λ k. carries k r.kind) (kind_still w s.field l there r.field)
            ∙ ap (λ g. carries (field_of w g).kind r.kind) x.field
            ∙ ap (carries (field_of w s.field).kind) x.kind
            ∙ (sound.collections c s is).carried;
        linked = λ p member. contains_there r.field p x.field ∙ x.linked p member;
        cursor = x.cursor;
      }

  stays : (d : ℕ) (r : Sequence) → d ≢ c → collection w d ≡ Some r → IsSoundIn new r
  stays d r n e =
      let k = sound.collections d r e in
      record {
        in_field = has_still w s.field l r.field k.in_field;
        carried = ap (λ x. carries x r.kind) (kind_still w s.field l there r.field) ∙ k.carried;
        linked = λ p member. elim (cases_eq r.field s.field) [
          | inl f ↦ let away = outside w sound c s is d r n e f p member in contains_there r.field p f ∙ relinks.others p away.0 away.1
          | inr apart ↦ contains_elsewhere r.field p apart ∙ k.linked p member
        ];
        cursor = k.cursor;
      }

  which : (d : ℕ) (r : Sequence) → collection new d ≡ Some r → ((d ≡ c) × (o ≡ Some r)) ⊎ ((d ≢ c) × (collection w d ≡ Some r))
  which d r e = which_at w.collections c o is d r e

  beside_mine : (d : ℕ) (r x : Sequence) → d ≢ c → collection w d ≡ Some r → o ≡ Some x → r.field ≡ x.field → IsDisjoint r.members x.members
  beside_mine d r x n e is_x same = let k = fits x is_x in k.beside d r n e (same ∙ k.field)

  pub changed_sound : IsSound new
  changed_sound = record {
    below = sound.below;
    placed = placed_in;
    collections = λ d r e. elim (which d r e) [ inl h ↦ mine r h.1 | inr h ↦ stays d r h.0 h.1 ];
    apart = (
      (λ d r e. elim (which d r e) [ inl h ↦ (fits r h.1).distinct | inr h ↦ sound.apart.0 d r h.1 ]),
      (λ d e r u n is_r is_u same. elim (which d r is_r) [
        | inl h ↦ elim (which e u is_u) [
          | inl k ↦ absurd (n (h.0 ∙ sym k.0))
          | inr k ↦ disjoint_sym u.members r.members (beside_mine e u r k.0 k.1 h.1 (sym same))
        ]
        | inr h ↦ elim (which e u is_u) [
          | inl k ↦ beside_mine d r u h.0 h.1 k.1 same
          | inr k ↦ sound.apart.1 d e r u n h.1 k.1 same
        ]
      ]),
    );
  }

-- ONE PLACE p IS UNLINKED that is a member of no collection of the field. The new family is sound
module _ {A V : Type 0} (w : Family A V) (sound : IsSound w) (f : ℕ) (p : Place) (there : has_field w f ≡ true)
    (free : (c : ℕ) (s : Sequence) → collection w c ≡ Some s → s.field ≡ f → IsAbsent p s.members) where
  abbrev fewer : set_of.FinSet nat_cmp
  fewer = set_of.remove (linked_of w f) (index_of p)

  contains_fewer : (g : ℕ) (q : Place) → g ≡ f → set_of.contains (linked_of (with_linked w f fewer) g) (index_of q) ≡ set_of.contains fewer (index_of q)
  contains_fewer g q e = ap (λ x. set_of.contains (linked_of (with_linked w f fewer) x) (index_of q)) e ∙ ap (λ u. set_of.contains u (index_of q)) (linked_there w f fewer there)

  contains_same : (g : ℕ) (q : Place) → g ≢ f → set_of.contains (linked_of (with_linked w f fewer) g) (index_of q) ≡ set_of.contains (linked_of w g) (index_of q)
  contains_same g q d = ap (λ u. set_of.contains u (index_of q)) (linked_elsewhere w f fewer g d)

  pub freed_sound : IsSound (with_linked w f fewer)
  freed_sound = record {
    below = sound.below;
    placed = λ g q h. elim (cases_eq g f) [
      | inl e ↦ sound.placed f q (still_in (linked_of w f) p q (sym (contains_fewer g q e) ∙ h)).1
      | inr d ↦ sound.placed g q (sym (contains_same g q d) ∙ h)
    ];
    collections = λ c s e.
        let k = sound.collections c s e in
        record {
          in_field = has_still w f fewer s.field k.in_field;
          carried = ap (λ x. carries x s.kind) (kind_still w f fewer there s.field) ∙ k.carried;
          linked = λ q member. elim (cases_eq s.field f) [
            | inl same ↦
                contains_fewer s.field q same
                ∙ in_less (linked_of w f) p q (λ is. member (subst (λ z. IsAbsent z s.members) (sym is) (free c s e same))) (ap (λ g. set_of.contains (linked_of w g) (index_of q)) (sym same) ∙ k.linked q member)
            | inr other ↦ contains_same s.field q other ∙ k.linked q member
          ];
          cursor = k.cursor;
        };
    apart = sound.apart;
  }

-- A COLLECTION x IS ADDED that shares no member with another collection of its field. The new family is sound
module _ {A V : Type 0} (w : Family A V) (sound : IsSound w) (x : Sequence) (right : IsSoundIn w x) (distinct : IsDistinct x.members)
    (beside : (d : ℕ) (r : Sequence) → collection w d ≡ Some r → r.field ≡ x.field → IsDisjoint r.members x.members) where
  same_fields : (r : Sequence) → IsSoundIn w r → IsSoundIn (with_opened w x) r
  same_fields r k = record { in_field = k.in_field; carried = k.carried; linked = k.linked; cursor = k.cursor }

  which_opened : (d : ℕ) (r : Sequence) → collection (with_opened w x) d ≡ Some r → ((d ≡ length w.collections) × (x ≡ r)) ⊎ (collection w d ≡ Some r)
  which_opened d r e = elim (side (length w.collections) d) [
    | inl past ↦ elim (cases_eq d (length w.collections)) [
      | inl same ↦ inl (same, some_same (sym (get_or_push w.collections (Some x) None d (sym same)) ∙ e))
      | inr beyond ↦ absurd (none_not r (sym (get_or_past (w.collections ++ Some x ∷ []) d None (let n = length-append w.collections (Some x ∷ []) in omega (arith, n, past, beyond))) ∙ e))
    ]
    | inr in_bounds ↦ inr (sym (get_or_append_left w.collections (Some x ∷ []) None d in_bounds) ∙ e)
  ]

  pub opened_sound : IsSound (with_opened w x)
  opened_sound = record {
    below = sound.below;
    placed = sound.placed;
    collections = λ d r e. elim (which_opened d r e) [ inl h ↦ subst (IsSoundIn (with_opened w x)) h.1 (same_fields x right) | inr h ↦ same_fields r (sound.collections d r h) ];
    apart = (
      (λ d r e. elim (which_opened d r e) [ inl h ↦ subst (λ (z : Sequence). IsDistinct z.members) h.1 distinct | inr h ↦ sound.apart.0 d r h ]),
      (λ d e r u n is_r is_u same. elim (which_opened d r is_r) [
        | inl h ↦ elim (which_opened e u is_u) [
          | inl k ↦ absurd (n (h.0 ∙ sym k.0))
          | inr k ↦ subst (λ (z : Sequence). IsDisjoint z.members u.members) h.1 (disjoint_sym u.members x.members (beside e u k (sym same ∙ ap (λ (z : Sequence). z.field) (sym h.1))))
        ]
        | inr h ↦ elim (which_opened e u is_u) [
          | inl k ↦ subst (λ (z : Sequence). IsDisjoint r.members z.members) k.1 (beside d r h (same ∙ ap (λ (z : Sequence). z.field) (sym k.1)))
          | inr k ↦ sound.apart.1 d e r u n h k same
        ]
      ]),
    );
  }

-- A FIELD IS ADDED in which no place is linked. The new family is sound
module _ {A V : Type 0} (w : Family A V) (sound : IsSound w) (kind : Kind) where
  abbrev added : Family A V
  added = record w { fields = w.fields ++ record { kind = kind; linked = set_of.empty } ∷ [] }

  field_still : (f : ℕ) → f < length w.fields → field_of added f ≡ field_of w f
  field_still f in_bounds = get_or_append_left w.fields (record { kind = kind; linked = set_of.empty } ∷ []) _ f in_bounds

  none_linked : (f : ℕ) (p : Place) → length w.fields ≤ f → set_of.contains (linked_of added f) (index_of p) ≡ false
  none_linked f p past = elim (cases_eq f (length w.fields)) [
    | inl last ↦ ap (λ (x : LinkField). set_of.contains x.linked (index_of p)) (get_or_push w.fields (record { kind = kind; linked = set_of.empty }) _ f (sym last)) ∙ contains-empty nat_cmp (index_of p)
    | inr beyond ↦
        ap (λ (x : LinkField). set_of.contains x.linked (index_of p)) (get_or_past (w.fields ++ record { kind = kind; linked = set_of.empty } ∷ []) f _ (let n = length-append w.fields (record { kind = kind; linked = set_of.empty } ∷ []) in omega (arith, n, past, beyond)))
        ∙ contains-empty nat_cmp (index_of p)
  ]

  pub added_sound : IsSound added
  added_sound = record {
    below = sound.below;
    placed = λ f p h. elim (side (length w.fields) f) [
      | inl past ↦ absurd (true≢false (sym h ∙ none_linked f p past))
      | inr in_bounds ↦ sound.placed f p (ap (λ (x : LinkField). set_of.contains x.linked (index_of p)) (sym (field_still f in_bounds)) ∙ h)
    ];
    collections = λ c s e.
        let k = sound.collections c s e in
        let in_bounds : s.field < length w.fields = ltb-true s.field (length w.fields) k.in_field in
        let same = field_still s.field in_bounds in
        record {
          in_field = lt-ltb s.field (length added.fields) (let n = length-append w.fields (record { kind = kind; linked = set_of.empty } ∷ []) in omega (arith, n, in_bounds));
          carried = ap (λ (x : LinkField). carries x.kind s.kind) same ∙ k.carried;
          linked = λ p member. ap (λ (x : LinkField). set_of.contains x.linked (index_of p)) same ∙ k.linked p member;
          cursor = k.cursor;
        };
    apart = sound.apart;
  }

-- IF THE OBJECTS ARE REPLACED by the objects m, the family stays sound, provided that all are at the first 2 ^ 32 places, and that each linked place
-- has an object
pub objects_sound : {A V : Type 0} (w : Family A V) (sound : IsSound w) (m : map_of.FinMap nat_cmp V)
    → ((p : Place) → is_some (map_of.get m (index_of p)) ≡ true → index_of p < 2 ^ 32) → ((f : ℕ) (p : Place) → set_of.contains (linked_of w f) (index_of p) ≡ true → is_some (map_of.get m (index_of p)) ≡ true) → IsSound (record w { objects = m })
objects_sound w sound m below placed = record {
  below = below;
  placed = placed;
  collections = λ c s e. let k = sound.collections c s e in record { in_field = k.in_field; carried = k.carried; linked = k.linked; cursor = k.cursor };
  apart = sound.apart;
}

module _ {A V : Type 0} (w : Family A V) (sound : IsSound w) (p : Place) where
  cond_some : {X : Type 0} (b : Bool) (x : X) (o : Option X) → is_some o ≡ true → is_some (cond b (Some x) o) ≡ true
  cond_some true x o h = refl
  cond_some false x o h = h

  still_some : {X : Type 0} (b : Bool) (o : Option X) → is_some (cond b None o) ≡ true → is_some o ≡ true
  still_some true o h = absurd (true≢false (sym h))
  still_some false o h = h

  -- a new object at p, or another value of the object at p, leaves the family sound
  pub set_sound : index_of p < 2 ^ 32 → (v : V) → IsSound (record w { objects = map_of.insert w.objects (index_of p) v })
  set_sound low v = objects_sound w sound _
      (λ q has. elim (cases_eq (index_of q) (index_of p)) [
        | inl e ↦ rw e low
        | inr d ↦ sound.below q (sym (ap is_some (elsewhere v q d)) ∙ has)
      ])
      (λ f q h. ap is_some (get-insert nat_cmp_total w.objects (index_of p) v (index_of q)) ∙ cond_some _ v (map_of.get w.objects (index_of q)) (sound.placed f q h))
    where
      elsewhere : (v : V) (q : Place) → index_of q ≢ index_of p → map_of.get (map_of.insert w.objects (index_of p) v) (index_of q) ≡ map_of.get w.objects (index_of q)
      elsewhere v q d =
          get-insert nat_cmp_total w.objects (index_of p) v (index_of q)
          ∙ ap (λ b. cond b (Some v) (map_of.get w.objects (index_of q))) (unsigned_tied (index_of q) (index_of p) ∙ ne_eqb (index_of q) (index_of p) d)

  -- if p is linked in no field, removing the object at p leaves the family sound
  pub removed_sound : is_linked_somewhere w p ≡ false → IsSound (record w { objects = map_of.remove w.objects (index_of p) })
  removed_sound free = objects_sound w sound _
      (λ q has. sound.below q (still_some _ (map_of.get w.objects (index_of q)) (sym (ap is_some (get-remove nat_cmp_total w.objects (index_of p) (index_of q))) ∙ has)))
      (λ f q h. elim (cases_eq (index_of q) (index_of p)) [
        | inl e ↦ absurd (true≢false (sym (linked_is f q h e) ∙ free))
        | inr d ↦
            ap is_some (get-remove nat_cmp_total w.objects (index_of p) (index_of q)
            ∙ ap (λ b. cond b None (map_of.get w.objects (index_of q))) (unsigned_tied (index_of q) (index_of p) ∙ ne_eqb (index_of q) (index_of p) d))
            ∙ sound.placed f q h
      ])
    where
      in_bounds : (f : ℕ) (q : Place) → set_of.contains (linked_of w f) (index_of q) ≡ true → f < length w.fields
      in_bounds f q h = elim (side (length w.fields) f) [
        | inl past ↦ absurd (true≢false (sym h ∙ ap (λ (x : LinkField). set_of.contains x.linked (index_of q)) (get_or_past w.fields f _ past) ∙ contains-empty nat_cmp (index_of q)))
        | inr low ↦ low
      ]

      linked_is : (f : ℕ) (q : Place) → set_of.contains (linked_of w f) (index_of q) ≡ true → index_of q ≡ index_of p → is_linked_somewhere w p ≡ true
      linked_is f q h e =
          list_any_at (λ (x : LinkField). set_of.contains x.linked (index_of p)) w.fields f (record { kind = Singly; linked = set_of.empty }) (in_bounds f q h)
          (ap (λ i. set_of.contains (linked_of w f) i) (sym e) ∙ h)
