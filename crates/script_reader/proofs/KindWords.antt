-- The kind of a channel, by the word that it begins with.
use Rattle.std.proofs.Common.{◌≡◌, ℕ, List, ◌∷◌, Bool, true, false, refl, Ok, if◌then◌else◌}
use Rattle.std.specs.Str.{bytes_eq}
use lib.Chars.{codes}
use Rattle.channel_model.specs.declared.acts.Kind.TheVariants.{Rendezvous, Unlimited, Conflated, DropOldest}
use Rattle.script_grammar.specs.Places.{kind_at, buffered_at, made, number_at}

this : {A : Type 0} (b : Bool) (x y : A) → b ≡ true → (if b then x else y) ≡ x
this true x y e = refl
this false x y e = cc

other : {A : Type 0} (b : Bool) (x y z : A) → b ≡ false → y ≡ z → (if b then x else y) ≡ z
other true x y z e is = cc
other false x y z e is = is

pub kind-rendezvous : (v : ℕ) (w : List ℕ) (ws : List (List ℕ)) → bytes_eq w (codes "rendezvous") ≡ true
    → kind_at v (w ∷ ws) ≡ Ok (Rendezvous, ws)
unfolding kind_at
kind-rendezvous v w ws e = this (bytes_eq w (codes "rendezvous")) _ _ e

pub kind-buffered : (v : ℕ) (w : List ℕ) (ws : List (List ℕ)) → bytes_eq w (codes "rendezvous") ≡ false
    → bytes_eq w (codes "buffered") ≡ true → kind_at v (w ∷ ws) ≡ buffered_at ws
unfolding kind_at
kind-buffered v w ws n0 e = other (bytes_eq w (codes "rendezvous")) _ _ _ n0 (this (bytes_eq w (codes "buffered")) _ _ e)

pub kind-unlimited : (v : ℕ) (w : List ℕ) (ws : List (List ℕ)) → bytes_eq w (codes "rendezvous") ≡ false
    → bytes_eq w (codes "buffered") ≡ false → bytes_eq w (codes "unlimited") ≡ true → kind_at v (w ∷ ws) ≡ Ok (Unlimited, ws)
unfolding kind_at
kind-unlimited v w ws n0 n1 e = other (bytes_eq w (codes "rendezvous")) _ _ _ n0
    (other (bytes_eq w (codes "buffered")) _ _ _ n1 (this (bytes_eq w (codes "unlimited")) _ _ e))

pub kind-conflated : (v : ℕ) (w : List ℕ) (ws : List (List ℕ)) → bytes_eq w (codes "rendezvous") ≡ false
    → bytes_eq w (codes "buffered") ≡ false → bytes_eq w (codes "unlimited") ≡ false → bytes_eq w (codes "conflated") ≡ true
    → kind_at v (w ∷ ws) ≡ Ok (Conflated, ws)
unfolding kind_at
kind-conflated v w ws n0 n1 n2 e = other (bytes_eq w (codes "rendezvous")) _ _ _ n0
    (other (bytes_eq w (codes "buffered")) _ _ _ n1 (other (bytes_eq w (codes "unlimited")) _ _ _ n2
    (this (bytes_eq w (codes "conflated")) _ _ e)))

pub kind-dropoldest : (v : ℕ) (w : List ℕ) (ws : List (List ℕ)) → bytes_eq w (codes "rendezvous") ≡ false
    → bytes_eq w (codes "buffered") ≡ false → bytes_eq w (codes "unlimited") ≡ false → bytes_eq w (codes "conflated") ≡ false
    → bytes_eq w (codes "dropoldest") ≡ true → kind_at v (w ∷ ws) ≡ made (λ k. DropOldest k) (number_at 1 65535 ws)
unfolding kind_at
kind-dropoldest v w ws n0 n1 n2 n3 e = other (bytes_eq w (codes "rendezvous")) _ _ _ n0
    (other (bytes_eq w (codes "buffered")) _ _ _ n1 (other (bytes_eq w (codes "unlimited")) _ _ _ n2
    (other (bytes_eq w (codes "conflated")) _ _ _ n3 (this (bytes_eq w (codes "dropoldest")) _ _ e))))
