mod Several
