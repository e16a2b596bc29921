-- A stream opens with one item, so its requests are one list.
use Rattle.portal_frame.proofs.Base.{◌≡◌, ℕ, inl, inr, List, sym, ap, ◌∙◌, item_of, Opens, request_unique, Item}

pub Opens-unique : (bytes : List ℕ) (i j : Item) → Opens bytes i → Opens bytes j → i ≡ j
Opens-unique bytes i j (inl (h, rest, t, e)) (inl (k, after, u, f)) =
    let same = request_unique bytes h k rest after t.reads u.reads in
    e ∙ (ap (λ x. item_of x rest) same.0 ∙ (ap (item_of k) same.1 ∙ sym f))
Opens-unique bytes i j (inl (h, rest, t, e)) (inr (none, f)) = absurd (none h rest t)
Opens-unique bytes i j (inr (none, e)) (inl (h, rest, t, f)) = absurd (none h rest t)
Opens-unique bytes i j (inr (none, e)) (inr (more, f)) = e ∙ sym f
