use Rattle.portal_tables.proofs.Base.{◌≡◌, rules, ◌∙◌, ap, subst, Database, Held, memory_is_clean, portal_schema}
use Rattle.portal_tables.proofs.writing.schema.make_scratch.Goals as goal

pub returns : goal.returns
returns c =
    let same : c.commit.new.self.0 ≡ c.conn-2-1.given.0 = search rules in
    let has = ap (λ (h : Held _). h.schema) c.transaction-tx.ensures.begun ∙ c.requires.empty in
    let made = (c.in_ok-make_tables.ensures.done (memory_is_clean c.make_tables.new.tx.conn.now)).changed has in
    let kept = (c.in_ok-commit.ensures.ok (memory_is_clean c.commit.new.self.0)).1.now_is in
    subst (λ (h : Held _). h.schema ≡ portal_schema) same (ap (λ (d : Database). d.schema) kept ∙ made.schema_is)
