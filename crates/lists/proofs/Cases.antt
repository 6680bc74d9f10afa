-- What `search` is handed where a definition goes by tests: what a branch of the code says gives each test its truth value.
use borrow.Author.Rules.{rules}
use borrow.Author.Tests.{eq-eqb, ne_eqb, lt-ltb, le-ltb, le-leb, lt-leb}

pub ruleset cases = (rules, eq-eqb, ne_eqb, lt-ltb, le-ltb, le-leb, lt-leb)
