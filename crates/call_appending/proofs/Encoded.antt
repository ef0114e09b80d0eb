-- A signature with fewer arguments is within the limits where the one with more is. Assumes nothing.
use mathlib.Core.Path.{◌≡◌, refl, sym, ap, subst, ◌∙◌}
use mathlib.Core.Bool.{Bool}
use mathlib.Core.List.{List}
use Prim.Native.Nat.{ℕ, ◌+◌, ◌≤◌}
use native.Mathlib.Omega.{arith}
use lib.ListN.{length}
use Rattle.base_conventions.specs.declared.Convention.{Convention}
use Rattle.sig_types.specs.Trees.{Trees, none, ◌▸◌, count_of}
use Rattle.sig_types.specs.Limits.{AllWithin}
use Rattle.sig_items.specs.Encode.{encode_trees}
use Rattle.sig_items.proofs.Trees.{length_more}
use Rattle.sig_signatures.specs.Signature.{ResultTree, Signature}
use Rattle.sig_signatures.specs.Encode.{encode_result, encode, SignatureWithin}
use Rattle.sig_signatures.proofs.Sound.{length-encode}
use Rattle.call_appending.specs.Appending.{joined, Appends}
use Rattle.call_appending.proofs.Folds.{joined-count}

-- g with the arguments us after its own
abbrev pub extended : Signature → Trees → Signature
extended g us = record { convention = g.convention; result = g.result; ellipsis = g.ellipsis; arguments = joined g.arguments us }

pub appends-extended : (g h : Signature) (a : Appends g h) → h ≡ extended g a.more
appends-extended g h a =
    ap (λ (x : Convention). record { convention = x; result = h.result; ellipsis = h.ellipsis; arguments = h.arguments }) a.convention
    ∙ ap (λ (x : ResultTree). record { convention = g.convention; result = x; ellipsis = h.ellipsis; arguments = h.arguments }) a.result
    ∙ ap (λ (x : Bool). record { convention = g.convention; result = g.result; ellipsis = x; arguments = h.arguments }) a.ellipsis
    ∙ ap (λ (x : Trees). record { convention = g.convention; result = g.result; ellipsis = g.ellipsis; arguments = x }) a.arguments

joined-within : (c : Convention) (ts us : Trees) → AllWithin c (joined ts us) → AllWithin c ts
unfolding AllWithin joined
joined-within c ts none h = h
joined-within c ts (us ▸ u) h = joined-within c ts us h.0

joined_length : (ts us : Trees) → length (encode_trees ts) ≤ length (encode_trees (joined ts us))
unfolding joined
joined_length ts none = omega arith
joined_length ts (us ▸ u) = omega (arith, joined_length ts us, length_more (joined ts us) u)

extended-within : (g : Signature) (us : Trees) → SignatureWithin (extended g us) → SignatureWithin g
extended-within g us w = record {
  result = w.result;
  arguments = joined-within g.convention g.arguments us w.arguments;
  few = omega (arith, joined-count g.arguments us, w.few);
  short = omega (arith, joined_length g.arguments us, length-encode g, length-encode (extended g us), w.short);
}

pub shorter-within : (g h : Signature) → Appends g h → SignatureWithin h → SignatureWithin g
shorter-within g h a w = extended-within g a.more (subst SignatureWithin (appends-extended g h a) w)
